-- Numbers that are found one after another, and put in their places.
use Rattle.std.proofs.Common.{◌≡◌, ℕ, ◌+◌, ◌<◌, Bool, true, false, if◌then◌else◌, List, [], ◌∷◌, ◌++◌, length, map, filter, drop, get_or, sym, ap, ◌∙◌, append_assoc}
use Rattle.std.specs.Prelude.{flat_map}
use Rattle.smf_fmri.specs.ByKey.{put_all}
use Rattle.smf_value.proofs.EditLoops.{left_at}
use Rattle.smf_model.specs.declared.change.Change.{Change}
use Rattle.smf_model.specs.declared.held.Instance.{Instance}
use Rattle.smf_model.specs.declared.held.InstanceEntry.{InstanceEntry}
use Rattle.smf_model.specs.Look.{bare}
use Rattle.smf_changes.specs.Changes.{by_itself}
use Rattle.smf_changes.proofs.Merges.{put_all_append}

abbrev number : Instance → ℕ
number i = i.number

abbrev numbers_of : (Instance → Bool) → List InstanceEntry → List ℕ
numbers_of test es = map number (filter test (bare es))

pub one_found : (test : Instance → Bool) (es : List InstanceEntry) (i : ℕ) (e : InstanceEntry) (all new ys : List ℕ)
    (b : Bool) → i < length es → e ≡ get_or es i e → b ≡ test e.instance
    → new ≡ (if b then all ++ e.instance.number ∷ [] else all)
    → all ++ map (λ i. i.number) (filter test (bare (drop i es))) ≡ ys
    → new ++ map (λ i. i.number) (filter test (bare (drop (i + 1) es))) ≡ ys
one_found test es i e all new ys b low at is made so_far =
    by b made
    ∙ ap (λ (t : Bool). all ++ map number
    (if t then e.instance ∷ filter test (bare (drop (i + 1) es)) else filter test (bare (drop (i + 1) es)))) is
    ∙ ap (λ (l : List InstanceEntry). all ++ numbers_of test l) (sym (left_at es i e low at))
    ∙ so_far
  where
    rest : List InstanceEntry
    rest = drop (i + 1) es

    by : (t : Bool) → new ≡ (if t then all ++ e.instance.number ∷ [] else all)
        → new ++ numbers_of test rest
        ≡ all ++ map number (if t then e.instance ∷ filter test (bare rest) else filter test (bare rest))
    by true f = ap (λ (l : List ℕ). l ++ numbers_of test rest) f
        ∙ append_assoc all (e.instance.number ∷ []) (numbers_of test rest)
    by false f = ap (λ (l : List ℕ). l ++ numbers_of test rest) f

pub one_put : (f : Change → List ℕ) (cs : List Change) (i : ℕ) (c : Change) (all new ys ns : List ℕ) → i < length cs
    → c ≡ get_or cs i c → ns ≡ f c → new ≡ put_all by_itself ns all
    → put_all by_itself (flat_map f (drop i cs)) all ≡ ys → put_all by_itself (flat_map f (drop (i + 1) cs)) new ≡ ys
one_put f cs i c all new ys ns low at named put so_far =
    ap (put_all by_itself (flat_map f (drop (i + 1) cs))) (put ∙ ap (λ (l : List ℕ). put_all by_itself l all) named)
    ∙ sym (put_all_append by_itself (f c) (flat_map f (drop (i + 1) cs)) all)
    ∙ ap (λ (l : List Change). put_all by_itself (flat_map f l) all) (sym (left_at cs i c low at))
    ∙ so_far

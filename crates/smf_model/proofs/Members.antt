-- A look-up by key finds each item of a list that stands in the order of its keys.
use Rattle.std.proofs.Common.{◌≡◌, ℕ, zero, suc, ◌+◌, ◌<◌, List, [], ◌∷◌, length, drop, get_or, Option, Some, sym, ap, subst, ◌∙◌}
use Rattle.std.specs.Prelude.{option_map, unwrap_or}
use Rattle.std.specs.declared.cmp.Ordering.TheVariants.{Less, Equal}
use Rattle.smf_fmri.specs.ByKey.{By, IsBelowFirst, Rises, lookup}
use Rattle.smf_fmri.proofs.Lookups.{same_key}
use Rattle.smf_value.specs.Groups.{GroupRecord}
use Rattle.smf_value.proofs.EditLoops.{left_at}
use Rattle.smf_model.specs.declared.held.InstanceEntry.{InstanceEntry}
use Rattle.smf_model.specs.declared.held.Owner.TheVariants as owners
use Rattle.smf_model.specs.Contents.{Holdings}
use Rattle.smf_model.specs.Look.{by_entry, groups_of}

below_there : {X K : Type 0} (o : By X K) (a : K) (i : ℕ) (xs : List X) (x : X) (rest : List X) → IsBelowFirst o a xs
    → Rises o xs
    → drop i xs ≡ x ∷ rest → o.cmp a (o.key x) ≡ Less
below_there o a zero [] x rest b r e = cc
below_there o a (suc i) [] x rest b r e = cc
below_there o a zero (y ∷ ys) x rest b r e = cc
below_there o a (suc i) (y ∷ ys) x rest b r e =
    o.total.trans a (o.key y) (o.key x) b (below_there o (o.key y) i ys x rest r.0 r.1 e)

pub found_there : {X K : Type 0} (o : By X K) (i : ℕ) (xs : List X) (x : X) (rest : List X) → Rises o xs
    → drop i xs ≡ x ∷ rest
    → lookup o xs (o.key x) ≡ Some x
found_there o zero [] x rest r e = cc
found_there o (suc i) [] x rest r e = cc
found_there o zero (y ∷ ys) x rest r e =
    let same : y ≡ x = cc in
    let k : o.cmp (o.key y) (o.key x) ≡ Equal = ap (λ z. o.cmp (o.key z) (o.key x)) same ∙ same_key o (o.key x) in
    rw k (ap Some same)
found_there o (suc i) (y ∷ ys) x rest r e =
    let less : o.cmp (o.key y) (o.key x) ≡ Less = below_there o (o.key y) i ys x rest r.0 r.1 e in
    rw less (found_there o i ys x rest r.1 e)

abbrev groups_in : Option InstanceEntry → List GroupRecord
groups_in o = unwrap_or (option_map (λ e. e.groups) o) []

-- the groups of an entry of what is held are those of its instance
pub groups_there : (inner h : Holdings) (es : List InstanceEntry) (i : ℕ) (e : InstanceEntry) → inner ≡ h
    → es ≡ inner.instances
    → Rises by_entry inner.instances → i < length es → e ≡ get_or es i e
    → e.groups ≡ groups_of h (owners.Instance e.instance.number)
unfolding groups_of
groups_there inner h es i e same all rises low at =
    let held : es ≡ h.instances = all ∙ ap (λ (k : Holdings). k.instances) same in
    let P : Holdings → Type 0 = λ k. Rises by_entry k.instances in
    let there : drop i h.instances ≡ e ∷ drop (i + 1) es =
    ap (λ (l : List InstanceEntry). drop i l) (sym held) ∙ left_at es i e low at in
    sym (ap groups_in (found_there by_entry i h.instances e (drop (i + 1) es) (subst P same rises) there))

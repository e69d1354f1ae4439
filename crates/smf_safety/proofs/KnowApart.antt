-- The launched restarters, of which no two have one name.
use Rattle.std.proofs.Common.{◌≡◌, inl, inr, ℕ, Bool, true, false, cond, if◌then◌else◌, List, [], ◌∷◌, ◌++◌, map, filter, Some, None, refl, sym, ap, ◌∙◌, subst}
use Rattle.std.specs.Prelude.{find}
use Rattle.smf_fmri.proofs.Patterns.{same_text}
use Rattle.smf_restarter.specs.declared.reply.KnowledgeChange.{KnowledgeChange}
use Rattle.smf_restarter.specs.Changes.{knowledge_after}
use Rattle.smf_restarter.specs.Knowledge.{Knowledge, at_first}
use Rattle.smf_world.specs.Worked.{is_named}
use Rattle.smf_world.proofs.LiveEach.{each_both, each_filter}
use Rattle.smf_world.proofs.LiveLists.{Each, IsIn}

abbrev pub IsApartFrom : Knowledge → Knowledge → Type 0
IsApartFrom k l = k.name ≡ l.name → ⊥

abbrev pub AreApart : List Knowledge → Type 0
AreApart [] = Unit {0}
AreApart (k ∷ ks) = Each (IsApartFrom k) ks × AreApart ks

-- ---- a name

named_is : (name : List ℕ) (k : Knowledge) → is_named name k ≡ true → k.name ≡ name
named_is name k e = (same_text k.name name).0 e

other_named : (name : List ℕ) (k : Knowledge) → (name ≡ k.name → ⊥) → is_named name k ≡ false
other_named name k apart = by (is_named name k) refl
  where
    by : (b : Bool) → is_named name k ≡ b → b ≡ false
    by true e = absurd (apart (sym (named_is name k e)))
    by false e = refl

pub found_in : {X : Type 0} (test : X → Bool) (xs : List X) (x : X) → find test xs ≡ Some x
    → IsIn x xs × (test x ≡ true)
found_in test [] x e = absurd cc
found_in {X = X} test (y ∷ ys) x e = by (test y) refl e (found_in test ys x)
  where
    by : (b : Bool) → test y ≡ b → cond b (Some y) (find test ys) ≡ Some x
        → (find test ys ≡ Some x → IsIn x ys × (test x ≡ true)) → IsIn x (y ∷ ys) × (test x ≡ true)
    by true f g ih = let same : y ≡ x = cc in (inl same, subst (λ (z : X). test z ≡ true) same f)
    by false f g ih = let a = ih g in (inr a.0, a.1)

-- the restarter that is found by a name
pub restarter_found : (name : List ℕ) (ks : List Knowledge) (k : Knowledge) → find (is_named name) ks ≡ Some k
    → IsIn k ks × (k.name ≡ name)
restarter_found name ks k e = let a = found_in (is_named name) ks k e in (a.0, named_is name k a.1)

pub none_named : (name : List ℕ) (ks : List Knowledge) → find (is_named name) ks ≡ None
    → Each (λ (k : Knowledge). k.name ≡ name → ⊥) ks
none_named name [] e = tt
none_named name (k ∷ ks) e = by (is_named name k) refl e (none_named name ks)
  where
    by : (b : Bool) → is_named name k ≡ b → cond b (Some k) (find (is_named name) ks) ≡ None
        → (find (is_named name) ks ≡ None → Each (λ (l : Knowledge). l.name ≡ name → ⊥) ks)
        → (k.name ≡ name → ⊥) × Each (λ (l : Knowledge). l.name ≡ name → ⊥) ks
    by true f g ih = absurd cc
    by false f g ih = (λ same. absurd (let t : is_named name k ≡ true = (same_text k.name name).1 same in cc), ih g)

-- ---- one of them knows more

pub changed_name : (k : Knowledge) (c : KnowledgeChange) → (knowledge_after k c).name ≡ k.name
unfolding knowledge_after
changed_name k c = refl

abbrev pub knowing_by : List ℕ → KnowledgeChange → Knowledge → Knowledge
knowing_by name c k = if is_named name k then knowledge_after k c else k

knowing_is : (name : List ℕ) (c : KnowledgeChange) (k : Knowledge) (b : Bool) → is_named name k ≡ b
    → knowing_by name c k ≡ (if b then knowledge_after k c else k)
knowing_is name c k b e = ap (λ (d : Bool). if d then knowledge_after k c else k) e

knowing_name : (name : List ℕ) (c : KnowledgeChange) (k : Knowledge) → (knowing_by name c k).name ≡ k.name
knowing_name name c k = by (is_named name k)
  where
    by : (b : Bool) → (if b then knowledge_after k c else k).name ≡ k.name
    by true = changed_name k c
    by false = refl

others_know : (P Q : Knowledge → Type 0) (k : Knowledge) (c : KnowledgeChange) (ks : List Knowledge)
    → Each (IsApartFrom k) ks → ((l : Knowledge) → IsApartFrom k l → P l → Q l) → Each P ks
    → Each Q (map (knowing_by k.name c) ks)
others_know P Q k c [] apart other a = tt
others_know P Q k c (l ∷ ls) apart other a = (
  subst Q (sym (knowing_is k.name c l false (other_named k.name l apart.0))) (other l apart.0 a.0),
  others_know P Q k c ls apart.1 other a.1,
)

apart_of : (k l : Knowledge) (ks : List Knowledge) → Each (IsApartFrom l) ks → IsIn k ks → IsApartFrom k l
apart_of k l [] a m = absurd m
apart_of k l (x ∷ xs) a (inl same) = λ e. a.0 (sym e ∙ ap (λ (z : Knowledge). z.name) (sym same))
apart_of k l (x ∷ xs) a (inr m) = apart_of k l xs a.1 m

-- if one of them knows more, the facts of each go on
pub all_know : (P Q : Knowledge → Type 0) (k : Knowledge) (c : KnowledgeChange) (ks : List Knowledge) → AreApart ks
    → IsIn k ks → (P k → Q (knowledge_after k c)) → ((l : Knowledge) → IsApartFrom k l → P l → Q l) → Each P ks
    → Each Q (map (knowing_by k.name c) ks)
all_know P Q k c [] apart m here other a = absurd m
all_know P Q k c (l ∷ ls) apart (inl same) here other a = (
  subst Q (sym (knowing_is k.name c l true ((same_text l.name k.name).1 (ap (λ (z : Knowledge). z.name) same))))
      (subst (λ (z : Knowledge). P z → Q (knowledge_after z c)) (sym same) here a.0),
  others_know P Q k c ls (subst (λ (z : Knowledge). Each (IsApartFrom z) ls) same apart.0) other a.1,
)
all_know P Q k c (l ∷ ls) apart (inr m) here other a =
    let away : IsApartFrom k l = apart_of k l ls apart.0 m in (
      subst Q (sym (knowing_is k.name c l false (other_named k.name l away))) (other l away a.0),
      all_know P Q k c ls apart.1 m here other a.1,
    )

-- ---- they stay apart

apart_mapped : (f : Knowledge → Knowledge) (k : Knowledge) (ks : List Knowledge)
    → ((l : Knowledge) → (f l).name ≡ l.name) → Each (IsApartFrom k) ks → Each (IsApartFrom (f k)) (map f ks)
apart_mapped f k [] same a = tt
apart_mapped f k (l ∷ ls) same a = (λ e. a.0 (sym (same k) ∙ (e ∙ same l)), apart_mapped f k ls same a.1)

map_apart : (f : Knowledge → Knowledge) (ks : List Knowledge) → ((l : Knowledge) → (f l).name ≡ l.name) → AreApart ks
    → AreApart (map f ks)
map_apart f [] same a = tt
map_apart f (k ∷ ks) same a = (apart_mapped f k ks same a.0, map_apart f ks same a.1)

pub knowing_apart : (name : List ℕ) (c : KnowledgeChange) (ks : List Knowledge) → AreApart ks
    → AreApart (map (knowing_by name c) ks)
knowing_apart name c ks a = map_apart (knowing_by name c) ks (knowing_name name c) a

pub filter_apart : (test : Knowledge → Bool) (ks : List Knowledge) → AreApart ks → AreApart (filter test ks)
filter_apart test [] a = tt
filter_apart test (k ∷ ks) a = by (test k) (filter_apart test ks a.1)
  where
    by : (b : Bool) → AreApart (filter test ks) → AreApart (cond b (k ∷ filter test ks) (filter test ks))
    by true ih = (each_filter (IsApartFrom k) test ks a.0, ih)
    by false ih = ih

one_apart : (name : List ℕ) (actor launch : ℕ) (ks : List Knowledge) → Each (λ (k : Knowledge). k.name ≡ name → ⊥) ks
    → AreApart ks → AreApart (ks ++ at_first name actor launch ∷ [])
one_apart name actor launch [] away a = (tt, tt)
one_apart name actor launch (k ∷ ks) away a = (
  each_both (IsApartFrom k) ks (at_first name actor launch ∷ []) a.0 (away.0, tt),
  one_apart name actor launch ks away.1 a.1,
)

pub launched_apart : (name : List ℕ) (actor launch : ℕ) (ks : List Knowledge) → find (is_named name) ks ≡ None
    → AreApart ks → AreApart (ks ++ at_first name actor launch ∷ [])
launched_apart name actor launch ks e a = one_apart name actor launch ks (none_named name ks e) a

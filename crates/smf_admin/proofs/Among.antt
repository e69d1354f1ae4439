-- The answer by the instances that match is the answer of the definition.
use Rattle.std.proofs.Common.{◌≡◌, ℕ, ◌≤◌, List, [], ◌∷◌, ◌==◌, length, true, false, Option, Some, None, refl, sym, ◌∙◌, ap, arith}
use Rattle.std.proofs.lemmas.Bool.Decides.{nat_tests}
use Rattle.smf_fmri.specs.Patterns.{only_match}
use Rattle.smf_model.specs.declared.held.InstanceName.{InstanceName}
use Rattle.smf_admin.specs.declared.instances.Found.{Found}
use Rattle.smf_admin.specs.declared.instances.Found.TheVariants as finds
use Rattle.smf_admin.specs.Instances.{IsAnswer, first_or, found_among, found_by, instances_by_pattern, names_of}
use Rattle.smf_admin.proofs.Matches.{picked_answers}

several : (word w : List ℕ) (is : List InstanceName) (count : ℕ) → w ≡ word → length is ≡ count → 2 ≤ count
    → found_among word is ≡ finds.Several w count
several word w [] count e h le = absurd (omega arith)
several word w (i ∷ []) count e h le = absurd (omega arith)
several word w (i ∷ j ∷ is) count e h le = λ k. finds.Several (sym e k) (h k)

among : (pattern word : List ℕ) (view : List InstanceName) (found : Found) → IsAnswer pattern word view found
    → found_among word (instances_by_pattern pattern view) ≡ found
among pattern word view (finds.One n) h = ap (found_among word) h.1 ∙ ap (λ (m : ℕ). finds.One m) (sym h.2)
among pattern word view (finds.NoMatch w) h = ap (found_among word) h.1 ∙ ap (λ (x : List ℕ). finds.NoMatch x) (sym h.0)
among pattern word view (finds.Several w count) h = several word w (instances_by_pattern pattern view) count h.0 h.1 h.2

pub picked_among : (pattern word : List ℕ) (view : List InstanceName)
    → found_among word (instances_by_pattern pattern view) ≡ found_by word view (only_match pattern (names_of view))
picked_among pattern word view =
    among pattern word view (found_by word view (only_match pattern (names_of view))) (picked_answers pattern word view)

-- ---- by the first of them and their count

pub none_among : (word : List ℕ) (is : List InstanceName) → None ≡ first_or None is
    → finds.NoMatch word ≡ found_among word is
none_among word [] e = refl
none_among word (i ∷ is) e = absurd cc

number_same : (n m : ℕ) → Some n ≡ Some m → n ≡ m
number_same n m e = cc

pub one_among : (word : List ℕ) (is : List InstanceName) (n count : ℕ) → Some n ≡ first_or None is → count ≡ length is
    → (count == 1) ≡ true → finds.One n ≡ found_among word is
one_among word [] n count e h t = absurd cc
one_among word (i ∷ []) n count e h t = ap (λ (m : ℕ). finds.One m) (number_same n i.number e)
one_among word (i ∷ j ∷ is) n count e h t = absurd (grind (arith, nat_tests))

pub several_among : (word : List ℕ) (is : List InstanceName) (n count : ℕ) → Some n ≡ first_or None is
    → count ≡ length is → (count == 1) ≡ false
    → finds.Several word count ≡ found_among word is
several_among word [] n count e h t = absurd cc
several_among word (i ∷ []) n count e h t = absurd (grind (arith, nat_tests))
several_among word (i ∷ j ∷ is) n count e h t = ap (λ (m : ℕ). finds.Several word m) h

pub first_more : (first : Option ℕ) (i : InstanceName) (is : List InstanceName)
    → first_or (first_or first (i ∷ [])) is ≡ first_or first (i ∷ is)
first_more (Some n) i is = refl
first_more None i is = refl

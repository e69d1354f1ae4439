-- Texts that are cut at a byte.
use Rattle.std.proofs.Common.{◌≡◌, ◌≢◌, ℕ, suc, ◌<◌, ◌+◌, List, [], ◌∷◌, ◌++◌, length, get_or, Bool, true, false, not, ◌==◌, cond, Option, Some, None, MatchOption, option_map, refl, sym, ◌∙◌, ap, subst, arith, ne_eqb, eq-eqb, eqb-true}
use Rattle.std.specs.Borrow.{Bor}
use Rattle.std.specs.List.{list_all}
use Rattle.std.proofs.lemmas.Bool.{and_parts}
use Rattle.std.proofs.lemmas.Str.Pattern.{IsSplitOnceResult, split_parts}
use Rattle.smf_chronicle.specs.Lines.{cut_at}

abbrev pub no_byte : ℕ → List ℕ → Bool
no_byte c text = list_all (λ b. not (b == c)) text

same_itself : (c : ℕ) → (c == c) ≡ true
same_itself c = eq-eqb c c refl

cut_found : (c : ℕ) (xs ys : List ℕ) → ((i : ℕ) → i < length xs → get_or xs i 0 ≢ c)
    → cut_at c (xs ++ c ∷ ys) ≡ Some (xs, ys)
cut_found c [] ys none = rw (same_itself c) refl
cut_found c (x ∷ xs) ys none =
    let other : (x == c) ≡ false = ne_eqb x c (none 0 (omega arith)) in
    let rest : cut_at c (xs ++ c ∷ ys) ≡ Some (xs, ys) = cut_found c xs ys (λ i low. none (suc i) (omega arith)) in
    rw (other, rest) refl

cut_none : (c : ℕ) (xs : List ℕ) → ((i : ℕ) → i < length xs → get_or xs i 0 ≢ c) → cut_at c xs ≡ None
cut_none c [] none = refl
cut_none c (x ∷ xs) none =
    let other : (x == c) ≡ false = ne_eqb x c (none 0 (omega arith)) in
    let rest : cut_at c xs ≡ None = cut_none c xs (λ i low. none (suc i) (omega arith)) in
    rw (other, rest) refl

-- `split_once` at a byte cuts there
pub split_once_cuts : (c : ℕ) → c < 128 → (text : List ℕ) (r : Option (Bor (List ℕ) × Bor (List ℕ)))
    → IsSplitOnceResult c text r → option_map (λ x. (x.0.now, x.1.now)) r ≡ cut_at c text
split_once_cuts c low text None h = sym (cut_none c text (split_parts c text None h low))
split_once_cuts c low text (Some x) h =
    let parts = split_parts c text (Some x) h low in
    sym (ap (cut_at c) parts.0 ∙ cut_found c x.0.now x.1.now parts.1)

test_false : (v : Bool) → not v ≡ true → v ≡ false
test_false true h = cc
test_false false h = refl

-- a text in which the byte does not stand is cut off again
pub cut_again : (c : ℕ) (xs ys : List ℕ) → no_byte c xs ≡ true → cut_at c (xs ++ c ∷ ys) ≡ Some (xs, ys)
cut_again c [] ys h = rw (same_itself c) refl
cut_again c (x ∷ xs) ys h =
    let parts = and_parts (not (x == c)) _ h in
    let other : (x == c) ≡ false = test_false (x == c) parts.0 in
    rw (other, cut_again c xs ys parts.1) refl

some_is : {X : Type 0} (a b : X) → Some a ≡ Some b → a ≡ b
some_is a b h = cc

cut_by : (v : Bool) (c b : ℕ) (bs : List ℕ) (o : Option (List ℕ × List ℕ)) (x : List ℕ × List ℕ) → (b == c) ≡ v
    → ((y : List ℕ × List ℕ) → o ≡ Some y → bs ≡ y.0 ++ c ∷ y.1)
    → cond v (Some ([], bs)) (option_map (λ y. (b ∷ y.0, y.1)) o) ≡ Some x → b ∷ bs ≡ x.0 ++ c ∷ x.1
cut_by true c b bs o x e more h =
    let is = some_is {X = List ℕ × List ℕ} ([], bs) x h in
    ap (λ (n : ℕ). n ∷ bs) (eqb-true b c e) ∙ ap (λ (y : List ℕ × List ℕ). y.0 ++ c ∷ y.1) is
cut_by false c b bs None x e more h = cc
cut_by false c b bs (Some y) x e more h =
    let is = some_is {X = List ℕ × List ℕ} (b ∷ y.0, y.1) x h in
    ap (λ (l : List ℕ). b ∷ l) (more y refl) ∙ ap (λ (z : List ℕ × List ℕ). z.0 ++ c ∷ z.1) is

-- a text that is cut is what stands before the byte, the byte, and what stands behind it
pub cut_was : (c : ℕ) (text : List ℕ) (x : List ℕ × List ℕ) → cut_at c text ≡ Some x → text ≡ x.0 ++ c ∷ x.1
cut_was c [] x h = cc
cut_was c (b ∷ bs) x h = cut_by (b == c) c b bs (cut_at c bs) x refl (λ y. cut_was c bs y) h

-- Lists of a known length.
use Rattle.std.proofs.Common.{◌≡◌, ◌<◌, ◌≤◌, List, [], ◌∷◌, length, slice_index_or, sym, ap, arith}

pub single_is : {X : Type 0} (xs : List X) (d x : X) → 1 ≤ length xs → length xs < 2 → slice_index_or xs 0 d ≡ x
    → xs ≡ x ∷ []
single_is [] d x least below is = absurd (omega (arith, least))
single_is (y ∷ []) d x least below is = ap (λ z. z ∷ []) is
single_is (y ∷ z ∷ xs) d x least below is = absurd (omega (arith, below))

five_are : {X : Type 0} (xs : List X) (a b e f g : X) → 5 ≤ length xs → length xs < 6 → a ≡ slice_index_or xs 0 a
    → b ≡ slice_index_or xs 1 b → e ≡ slice_index_or xs 2 e → f ≡ slice_index_or xs 3 f
    → g ≡ slice_index_or xs 4 g → xs ≡ a ∷ b ∷ e ∷ f ∷ g ∷ []
five_are [] a b e f g least below p q r s t = absurd (omega (arith, least))
five_are (v ∷ []) a b e f g least below p q r s t = absurd (omega (arith, least))
five_are (v ∷ w ∷ []) a b e f g least below p q r s t = absurd (omega (arith, least))
five_are (v ∷ w ∷ x ∷ []) a b e f g least below p q r s t = absurd (omega (arith, least))
five_are (v ∷ w ∷ x ∷ y ∷ []) a b e f g least below p q r s t = absurd (omega (arith, least))
five_are (v ∷ w ∷ x ∷ y ∷ z ∷ []) a b e f g least below p q r s t =
    λ j. sym p j ∷ sym q j ∷ sym r j ∷ sym s j ∷ sym t j ∷ []
five_are (v ∷ w ∷ x ∷ y ∷ z ∷ u ∷ xs) a b e f g least below p q r s t = absurd (omega (arith, below))

pub six_are : {X : Type 0} (xs : List X) (h a b e f g : X) → 6 ≤ length xs → length xs < 7 → h ≡ slice_index_or xs 0 h
    → a ≡ slice_index_or xs 1 a → b ≡ slice_index_or xs 2 b → e ≡ slice_index_or xs 3 e
    → f ≡ slice_index_or xs 4 f → g ≡ slice_index_or xs 5 g → xs ≡ h ∷ a ∷ b ∷ e ∷ f ∷ g ∷ []
six_are [] h a b e f g least below o p q r s t = absurd (omega (arith, least))
six_are (u ∷ xs) h a b e f g least below o p q r s t =
    λ j. sym o j ∷ five_are xs a b e f g (omega (arith, least)) (omega (arith, below)) p q r s t j

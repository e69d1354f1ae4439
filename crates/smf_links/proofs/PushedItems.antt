-- Lists by the item at each place, before and after one is put after the others.
use Rattle.std.proofs.Common.{◌≡◌, ℕ, zero, suc, List, [], ◌∷◌, ◌++◌, length, Some, refl, ap, ◌∙◌, sym}
use Rattle.std.specs.Prelude.{slice_get, slice_index}
use Rattle.std.specs.Option.{unwrap_or}

-- the item that came stands at the end
pub get_last : {X : Type 0} (xs : List X) (x : X) → slice_get (xs ++ x ∷ []) (length xs) ≡ Some x
get_last [] x = refl
get_last (y ∷ xs) x = get_last xs x

pub get_last_at : {X : Type 0} (xs : List X) (x : X) (i : ℕ) → length xs ≡ i → slice_get (xs ++ x ∷ []) i ≡ Some x
get_last_at xs x i e = ap (slice_get (xs ++ x ∷ [])) (sym e) ∙ get_last xs x

-- each other place has the item that it had, or none as before
pub get_before : {X : Type 0} (xs : List X) (x : X) (a : ℕ) → (a ≡ length xs → ⊥)
    → slice_get (xs ++ x ∷ []) a ≡ slice_get xs a
get_before [] x zero ne = absurd (ne refl)
get_before [] x (suc a) ne = refl
get_before (y ∷ xs) x zero ne = refl
get_before (y ∷ xs) x (suc a) ne = get_before xs x a (λ e. ne (ap suc e))

-- an empty list at the end is as none
pub empty_last : {X : Type 0} (xss : List (List X)) (a : ℕ)
    → unwrap_or (slice_get (xss ++ [] ∷ []) a) [] ≡ unwrap_or (slice_get xss a) []
empty_last [] zero = refl
empty_last [] (suc a) = refl
empty_last (xs ∷ xss) zero = refl
empty_last (xs ∷ xss) (suc a) = empty_last xss a

-- a zero at the end is as none
pub zero_last : (ss : List ℕ) (a : ℕ) → slice_index (ss ++ 0 ∷ []) a ≡ slice_index ss a
zero_last [] zero = refl
zero_last [] (suc a) = refl
zero_last (s ∷ ss) zero = refl
zero_last (s ∷ ss) (suc a) = zero_last ss a

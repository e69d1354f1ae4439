-- Lists by the item at each place, before and after one is set.
use Rattle.std.proofs.Common.{◌≡◌, ℕ, zero, suc, ◌<◌, ◌≤◌, List, [], ◌∷◌, length, Some, None, refl, ap, ◌∙◌, arith}
use Rattle.std.specs.Prelude.{slice_get, slice_set}
use Rattle.std.proofs.lemmas.Option.{same_Some}

pub get_set : {X : Type 0} (xs : List X) (i : ℕ) (x : X) → i < length xs → slice_get (slice_set xs i x) i ≡ Some x
get_set [] i x lt = absurd (omega arith)
get_set (y ∷ xs) zero x lt = refl
get_set (y ∷ xs) (suc i) x lt = let less : i < length xs = omega arith in get_set xs i x less

pub get_other : {X : Type 0} (xs : List X) (i j : ℕ) (x : X) → (j ≡ i → ⊥)
    → slice_get (slice_set xs i x) j ≡ slice_get xs j
get_other [] i j x ne = refl
get_other (y ∷ xs) zero zero x ne = absurd (ne refl)
get_other (y ∷ xs) zero (suc j) x ne = refl
get_other (y ∷ xs) (suc i) zero x ne = refl
get_other (y ∷ xs) (suc i) (suc j) x ne = get_other xs i j x (λ e. ne (ap suc e))

pub set_past : {X : Type 0} (xs : List X) (i : ℕ) (x : X) → length xs ≤ i → slice_set xs i x ≡ xs
set_past [] i x le = refl
set_past (y ∷ xs) zero x le = absurd (omega arith)
set_past (y ∷ xs) (suc i) x le = let less : length xs ≤ i = omega arith in ap (λ l. y ∷ l) (set_past xs i x less)

pub none_past_end : {X : Type 0} (xs : List X) (i : ℕ) → slice_get xs i ≡ None → length xs ≤ i
none_past_end [] i e = omega arith
none_past_end (x ∷ xs) zero e = absurd cc
none_past_end (x ∷ xs) (suc i) e = let le = none_past_end xs i e in omega arith

pub same_gets : {X : Type 0} (xs ys : List X) → ((i : ℕ) → slice_get xs i ≡ slice_get ys i) → xs ≡ ys
same_gets [] [] h = refl
same_gets [] (y ∷ ys) h = let e : None ≡ Some y = h zero in absurd cc
same_gets (x ∷ xs) [] h = let e : Some x ≡ None = h zero in absurd cc
same_gets (x ∷ xs) (y ∷ ys) h =
    let e : Some x ≡ Some y = h zero in let head : x ≡ y = same_Some x y e in
    ap (λ z. z ∷ xs) head ∙ ap (λ l. y ∷ l) (same_gets xs ys (λ k. h (suc k)))

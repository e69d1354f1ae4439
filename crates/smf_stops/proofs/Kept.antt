-- What filters keep, and what a list has.
use Rattle.std.proofs.Common.{◌≡◌, ◌≤◌, List, [], ◌∷◌, length, Bool, true, false, not, ◌&&◌, refl, ap, ◌∙◌, arith}
use Rattle.std.specs.Prelude.{filter, All, Contains}
use Rattle.std.specs.List.{list_all, list_any}
use Rattle.std.proofs.lemmas.Bool.{and_parts, false≢true}
use Rattle.std.proofs.lemmas.List.Elements.{All-cons, All-contains, All-contains_itself, All-filter, All-nil}
use Rattle.std.proofs.lemmas.List.Filters.{length-filter_both}
use Rattle.std.proofs.lemmas.List.Folds.{list_any_at}

-- ---- a test of some and of all

pub any_has : {X : Type 0} (p : X → Bool) (xs : List X) (x : X) → Contains xs x → p x ≡ true → list_any p xs ≡ true
any_has p xs x has is = list_any_at p xs has.0 x has.1 (ap p has.2 ∙ is)

pub all_are : {X : Type 0} (p : X → Bool) (xs : List X) → list_all p xs ≡ true → All (λ x. p x ≡ true) xs
all_are p [] e = All-nil (λ x. p x ≡ true)
all_are p (x ∷ xs) e =
    let parts = and_parts (p x) (list_all p xs) e in
    All-cons (λ y. p y ≡ true) x xs parts.0 (all_are p xs parts.1)

-- ---- filters

pub within : {X : Type 0} (p : X → Bool) (xs : List X) (x : X) → Contains (filter p xs) x → Contains xs x
within p xs x has = All-contains (Contains xs) (filter p xs) x (All-filter p (Contains xs) xs (All-contains_itself xs)) has

-- the one filter after the other, in either order
pub filter_turned : {X : Type 0} (p q : X → Bool) (xs : List X) → filter p (filter q xs) ≡ filter q (filter p xs)
filter_turned p q [] = refl
filter_turned p q (x ∷ xs) = grind (arith, filter_turned p q xs)

-- what passes the first passes the second too
pub filter_passed : {X : Type 0} (p q : X → Bool) → ((x : X) → p x ≡ true → q x ≡ true) → (xs : List X)
    → filter p (filter q xs) ≡ filter p xs
filter_passed p q passes [] = refl
filter_passed p q passes (x ∷ xs) = grind (arith, filter_passed p q passes xs, passes x)

pub filter_both : {X : Type 0} (p q : X → Bool) (xs : List X)
    → filter p (filter q xs) ≡ filter (λ x. q x && p x) xs
filter_both p q [] = refl
filter_both p q (x ∷ xs) = grind (arith, filter_both p q xs)

pub any_filtered : {X : Type 0} (p q : X → Bool) (xs : List X)
    → list_any (λ x. p x && q x) (filter p xs) ≡ list_any (λ x. p x && q x) xs
any_filtered p q [] = refl
any_filtered p q (x ∷ xs) = grind (arith, any_filtered p q xs)

pub none_kept : {X : Type 0} (p : X → Bool) (xs : List X) → filter p xs ≡ [] → list_any p xs ≡ true → ⊥
none_kept p [] e some = absurd (false≢true some)
none_kept p (x ∷ xs) e some = grind (arith, none_kept p xs)

pub none_any : {X : Type 0} (p : X → Bool) (xs : List X) → list_any p xs ≡ false → filter p xs ≡ []
none_any p [] e = refl
none_any p (x ∷ xs) e = grind (arith, none_any p xs)

pub length_kept : {X : Type 0} (p : X → Bool) (xs : List X) → length (filter p xs) ≤ length xs
length_kept p xs = omega (arith, length-filter_both p (λ x. not (p x)) (λ x. refl) xs)

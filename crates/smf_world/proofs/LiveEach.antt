-- Facts that hold of each item of a list.
use Rattle.std.proofs.Common.{◌≡◌, ℕ, zero, suc, Bool, true, false, cond, List, [], ◌∷◌, ◌++◌, map, filter, reverse, Some, inl, inr, sym, ap, ◌∙◌, subst, append-nil}
use Rattle.std.specs.Prelude.{slice_get}
use Rattle.std.proofs.lemmas.Grind.{reverse_onto}
use Rattle.std.proofs.lemmas.List.{append_assoc}
use Rattle.smf_world.proofs.LiveLists.{Each, IsIn}

pub each_later : {X : Type 0} (P Q : X → Type 0) → ((x : X) → P x → Q x) → (xs : List X) → Each P xs → Each Q xs
each_later P Q f [] a = tt
each_later P Q f (x ∷ xs) a = (f x a.0, each_later P Q f xs a.1)

pub each_all : {X : Type 0} (P : X → Type 0) → ((x : X) → P x) → (xs : List X) → Each P xs
each_all P f [] = tt
each_all P f (x ∷ xs) = (f x, each_all P f xs)

pub each_both : {X : Type 0} (P : X → Type 0) (xs ys : List X) → Each P xs → Each P ys → Each P (xs ++ ys)
each_both P [] ys a b = b
each_both P (x ∷ xs) ys a b = (a.0, each_both P xs ys a.1 b)

pub each_map : {X Y : Type 0} (P : Y → Type 0) (f : X → Y) (xs : List X) → Each (λ x. P (f x)) xs → Each P (map f xs)
each_map P f [] a = tt
each_map P f (x ∷ xs) a = (a.0, each_map P f xs a.1)

pub each_filter : {X : Type 0} (P : X → Type 0) (test : X → Bool) (xs : List X) → Each P xs → Each P (filter test xs)
each_filter P test [] a = tt
each_filter P test (x ∷ xs) a = by (test x) (each_filter P test xs a.1)
  where
    by : (b : Bool) → Each P (filter test xs) → Each P (cond b (x ∷ filter test xs) (filter test xs))
    by true ih = (a.0, ih)
    by false ih = ih

reverse_more : {X : Type 0} (x : X) (xs ys : List X) → reverse (x ∷ xs) ++ ys ≡ reverse xs ++ (x ∷ ys)
reverse_more x xs ys = ap (λ l. l ++ ys) (reverse_onto xs x []) ∙ append_assoc (reverse xs) (x ∷ []) ys

pub each_reversed : {X : Type 0} (P : X → Type 0) (xs ys : List X) → Each P xs → Each P ys → Each P (reverse xs ++ ys)
each_reversed P [] ys a b = b
each_reversed P (x ∷ xs) ys a b = subst (Each P) (sym (reverse_more x xs ys)) (each_reversed P xs (x ∷ ys) a.1 (a.0, b))

pub each_in : {X : Type 0} (P : X → Type 0) (x : X) (xs : List X) → Each P xs → IsIn x xs → P x
each_in P x [] a i = absurd i
each_in P x (y ∷ ys) a (inl e) = subst P e a.0
each_in P x (y ∷ ys) a (inr i) = each_in P x ys a.1 i

at_place : {X : Type 0} (P : X → Type 0) (xs : List X) (n : ℕ) (x : X) → Each P xs → slice_get xs n ≡ Some x → P x
at_place P [] n x a e = absurd cc
at_place P (y ∷ ys) zero x a e = let same : y ≡ x = cc in subst P same a.0
at_place P (y ∷ ys) (suc n) x a e = at_place P ys n x a.1 e

-- a fact of each message that was sent holds of the one at a place
pub each_sent : {X : Type 0} (P : X → Type 0) (xs : List X) (n : ℕ) (x : X) → Each P xs
    → slice_get (reverse xs) n ≡ Some x → P x
each_sent P xs n x a e =
    at_place P (reverse xs) n x (subst (Each P) (append-nil (reverse xs)) (each_reversed P xs [] a tt)) e

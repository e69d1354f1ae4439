-- The last of a list.
use Rattle.std.proofs.Common.{◌≡◌, ℕ, ◌-◌, List, ◌++◌, length, take, drop, sym, ap, ◌∙◌}
use Rattle.std.proofs.lemmas.List.{reverse-append, reverse-reverse, length-drop, length-reverse, take-append-drop, drop_at}
use Rattle.std.specs.Prelude.{reverse}

parts : {X : Type 0} (ys : List X) (k : ℕ) → reverse ys ≡ reverse (drop k ys) ++ reverse (take k ys)
parts ys k = ap reverse (sym (take-append-drop k ys)) ∙ reverse-append (take k ys) (drop k ys)

behind : {X : Type 0} (xs : List X) (k : ℕ) → length (reverse (drop k (reverse xs))) ≡ length xs - k
behind xs k = length-reverse (drop k (reverse xs)) ∙ length-drop k (reverse xs) ∙ ap (λ n. n - k) (length-reverse xs)

-- the last k, in their order
pub last_of : {X : Type 0} (xs : List X) (k : ℕ) → reverse (take k (reverse xs)) ≡ drop (length xs - k) xs
last_of xs k =
    sym (drop_at (reverse (drop k (reverse xs))) (reverse (take k (reverse xs))) (length xs - k) (behind xs k))
    ∙ ap (drop (length xs - k)) (sym (parts (reverse xs) k) ∙ reverse-reverse xs)

pub last_is : (xs ys : List ℕ) (k skipped : ℕ) → ys ≡ drop skipped xs → skipped ≡ length xs - k
    → ys ≡ reverse (take k (reverse xs))
last_is xs ys k skipped e is = e ∙ ap (λ n. drop n xs) is ∙ sym (last_of xs k)

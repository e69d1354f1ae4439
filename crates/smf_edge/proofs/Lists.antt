-- The numbers of a list of contracts that pass a test, one contract more.
use Rattle.std.proofs.Common.{◌≡◌, ℕ, ◌+◌, ◌<◌, List, [], ◌∷◌, ◌++◌, length, map, take, get_or, filter, Bool, sym, ap, ◌∙◌}
use Rattle.std.proofs.lemmas.List.{map_push, take_more}
use Rattle.std.proofs.lemmas.List.Elements.{filter-append}

pub listed_more : {X : Type 0} (test : ℕ → Bool) (of : X → ℕ) (xs : List X) (i : ℕ) (x : X) (ids more : List ℕ)
    → x ≡ get_or xs i x → i < length xs
    → ids ≡ filter test (map of (take i xs)) → more ≡ filter test (of x ∷ [])
    → ids ++ more ≡ filter test (map of (take (i + 1) xs))
listed_more test of xs i x ids more here low before now =
    let taken : take (i + 1) xs ≡ take i xs ++ x ∷ [] =
    take_more xs i x low ∙ ap (λ y. take i xs ++ y ∷ []) (sym here) in
    let all : map of (take (i + 1) xs) ≡ map of (take i xs) ++ of x ∷ [] =
    ap (map of) taken ∙ map_push of (take i xs) x in
    ap (λ ys. ys ++ more) before ∙ ap (λ ys. filter test (map of (take i xs)) ++ ys) now
    ∙ sym (ap (filter test) all ∙ filter-append test (map of (take i xs)) (of x ∷ []))

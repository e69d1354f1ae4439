-- Lists changed at the first place that passes a test.
use Rattle.std.proofs.Common.{◌≡◌, ℕ, suc, ◌+◌, ◌<◌, List, [], ◌∷◌, length, Bool, true, false, cond, nat_lt, Some, None, position, slice_set, refl, ◌∙◌, ap, arith, ltb-true}
use Rattle.std.specs.List.{position_or_len}
use Rattle.smf_model.specs.Look.{with_replacement}

replaced_by : {X : Type 0} (v : Bool) (test : X → Bool) (x y : X) (ys : List X) → test y ≡ v
    → (position_or_len test ys < length ys → with_replacement test x ys ≡ slice_set ys (position_or_len test ys) x)
    → position_or_len test (y ∷ ys) < length (y ∷ ys)
    → cond v (x ∷ ys) (y ∷ with_replacement test x ys) ≡ slice_set (y ∷ ys) (position_or_len test (y ∷ ys)) x
replaced_by true test x y ys e h low = rw e refl
replaced_by false test x y ys e h low =
    let next : 1 + position_or_len test ys ≡ suc (position_or_len test ys) = omega arith in
    let less : 1 + position_or_len test ys < length (y ∷ ys) = rw e at low in
    rw (e, next) (ap (λ l. y ∷ l) (h (omega arith)))

replaced_here : {X : Type 0} (test : X → Bool) (x : X) (xs : List X) → position_or_len test xs < length xs
    → with_replacement test x xs ≡ slice_set xs (position_or_len test xs) x
replaced_here test x [] low = absurd (omega arith)
replaced_here test x (y ∷ ys) low = replaced_by (test y) test x y ys refl (replaced_here test x ys) low

found_at : (v : Bool) (p n k : ℕ) → nat_lt p n ≡ v → cond v (Some p) None ≡ Some k → (p < n) × (p ≡ k)
found_at true p n k e h = (ltb-true p n e, cc)
found_at false p n k e h = cc

-- at the place of the first that passes
pub replaced_at : {X : Type 0} (test : X → Bool) (x : X) (xs : List X) (k : ℕ) → position test xs ≡ Some k
    → with_replacement test x xs ≡ slice_set xs k x
replaced_at test x xs k h = let at = found_at _ (position_or_len test xs) (length xs) k refl h in
    replaced_here test x xs at.0 ∙ ap (λ i. slice_set xs i x) at.1

-- Nine digits of a number below 10^9.
use Rattle.std.proofs.Common.{◌≡◌, ℕ, suc, ◌+◌, ◌-◌, ◌<◌, List, [], ◌∷◌, ◌++◌, refl, sym, ap, ◌∙◌, arith, append_assoc}
use Rattle.std.specs.Prelude.{replicate}

-- one zero more
pub zero_more : (was text all : List ℕ) (i : ℕ) → i < 9 → was ++ replicate (9 - i) 48 ≡ all → text ≡ was ++ 48 ∷ []
    → text ++ replicate (9 - (i + 1)) 48 ≡ all
zero_more was text all i low h e =
    let z : 9 - i ≡ suc (9 - (i + 1)) = omega arith in
    let one : replicate (9 - i) 48 ≡ 48 ∷ replicate (9 - (i + 1)) 48 = rw z refl in
    rw e (append_assoc was (48 ∷ []) (replicate (9 - (i + 1)) 48) ∙ ap (λ (l : List ℕ). was ++ l) (sym one) ∙ h)

-- Words up to a closing parenthesis.
use Rattle.std.proofs.Common.{◌≡◌, ℕ, zero, suc, ◌+◌, List, [], ◌∷◌, ◌++◌, length, drop, eqb, ne_eqb, Option, Some, None, refl, sym, ap, arith, append_assoc}
use Rattle.smf_svccfg.specs.declared.token.Token.{Token}
use Rattle.smf_svccfg.specs.Lines.{no_tokens, onto}

-- words, and further ones after them, if there are any to be had
abbrev pub behind : List (List ℕ) → Option (List (List ℕ)) → Option (List (List ℕ))
behind ws None = None
behind ws (Some others) = Some (ws ++ others)

pub none_before : (o : Option (List (List ℕ))) → behind [] o ≡ o
none_before None = refl
none_before (Some ws) = refl

-- a word more
pub one_more : (ws : List (List ℕ)) (word : List ℕ) (o : Option (List (List ℕ)))
    → behind (ws ++ word ∷ []) o ≡ behind ws (onto (Some word) o)
one_more ws word None = refl
one_more ws word (Some others) = ap Some (append_assoc ws (word ∷ []) others)

-- no tokens are left exactly if their count is 0
pub none_left : (ts : List Token) (i left : ℕ) → left + i ≡ length ts → no_tokens (drop i ts) ≡ eqb left 0
none_left [] zero zero e = refl
none_left [] zero (suc left) e = absurd (omega arith)
none_left [] (suc i) left e = absurd (omega arith)
none_left (t ∷ ts) zero zero e = absurd (omega arith)
none_left (t ∷ ts) zero (suc left) e = sym (ne_eqb (suc left) 0 (λ h. omega (arith, h)))
none_left (t ∷ ts) (suc i) left e = none_left ts i left (omega arith)

-- Pieces that are put one after another.
use Rattle.std.proofs.Common.{◌≡◌, ℕ, List, ◌++◌, OnOk, Result, Ok, Err, append_assoc, ap, ◌∙◌}
use Rattle.std.specs.Prelude.{if◌then◌else◌, is_ok}

pub three : (o a b c : List ℕ) → o ++ a ++ b ++ c ≡ o ++ (a ++ b ++ c)
three o a b c = ap (λ l. l ++ c) (append_assoc o a b) ∙ append_assoc o (a ++ b) c

pub five : (o a b c d e : List ℕ) → o ++ a ++ b ++ c ++ d ++ e ≡ o ++ (a ++ b ++ c ++ d ++ e)
five o a b c d e =
    ap (λ l. l ++ d ++ e) (three o a b c) ∙ ap (λ l. l ++ e) (append_assoc o (a ++ b ++ c) d)
    ∙ append_assoc o (a ++ b ++ c ++ d) e

pub seven : (o a b c d e f g : List ℕ) → o ++ a ++ b ++ c ++ d ++ e ++ f ++ g ≡ o ++ (a ++ b ++ c ++ d ++ e ++ f ++ g)
seven o a b c d e f g =
    ap (λ l. l ++ f ++ g) (five o a b c d e) ∙ ap (λ l. l ++ g) (append_assoc o (a ++ b ++ c ++ d ++ e) f)
    ∙ append_assoc o (a ++ b ++ c ++ d ++ e ++ f) g

pub chain_3 : (s0 s1 s2 s3 a b b' c : List ℕ) → s1 ≡ s0 ++ a → s2 ≡ s1 ++ b → b ≡ b' → s3 ≡ s2 ++ c
    → s3 ≡ s0 ++ (a ++ b' ++ c)
chain_3 s0 s1 s2 s3 a b b' c p q e r =
    r ∙ ap (λ l. l ++ c) (q ∙ ap (λ l. s1 ++ l) e ∙ ap (λ l. l ++ b') p) ∙ three s0 a b' c

pub chain_5 : (s0 s1 s2 s3 s4 s5 a b c d d' e : List ℕ) → s1 ≡ s0 ++ a → s2 ≡ s1 ++ b → s3 ≡ s2 ++ c → s4 ≡ s3 ++ d
    → d ≡ d' → s5 ≡ s4 ++ e
    → s5 ≡ s0 ++ (a ++ b ++ c ++ d' ++ e)
chain_5 s0 s1 s2 s3 s4 s5 a b c d d' e p q r s f t =
    t ∙ ap (λ l. l ++ e) (s ∙ ap (λ l. s3 ++ l) f ∙ ap (λ l. l ++ d') (r ∙ ap (λ l. l ++ c) (q ∙ ap (λ l. l ++ b) p)))
    ∙ five s0 a b c d' e

pub chain_7 : (s0 s1 s2 s3 s4 s5 s6 s7 a b c d e f f' g : List ℕ) → s1 ≡ s0 ++ a → s2 ≡ s1 ++ b → s3 ≡ s2 ++ c
    → s4 ≡ s3 ++ d → s5 ≡ s4 ++ e → s6 ≡ s5 ++ f → f ≡ f' → s7 ≡ s6 ++ g
    → s7 ≡ s0 ++ (a ++ b ++ c ++ d ++ e ++ f' ++ g)
chain_7 s0 s1 s2 s3 s4 s5 s6 s7 a b c d e f f' g p q r s t u h v =
    v ∙ ap (λ l. l ++ g)
    (u ∙ ap (λ l. s5 ++ l) h
    ∙ ap (λ l. l ++ f')
    (t ∙ ap (λ l. l ++ e) (s ∙ ap (λ l. l ++ d) (r ∙ ap (λ l. l ++ c) (q ∙ ap (λ l. l ++ b) p)))))
    ∙ seven s0 a b c d e f' g

-- the text that the last of several calls has put
pub put_last : {X E : Type 0} (r : Result X E) (s old t : List ℕ) → s ≡ (if is_ok r then old ++ t else old)
    → OnOk r (s ≡ old ++ t)
put_last (Ok x) s old t e = e
put_last (Err fault) s old t e = tt

-- The last colon of a text, which is looked for from its end.
use Rattle.std.proofs.Common.{◌≡◌, ℕ, ◌+◌, ◌==◌, ◌<◌, ◌≤◌, List, [], ◌∷◌, ◌++◌, Bool, true, false, if◌then◌else◌, Option, Some, None, length, take, get_or, refl, ◌∙◌, ap, subst, sym, arith}
use Rattle.std.proofs.lemmas.Bool.Decides.{nat_tests}
use Rattle.std.proofs.lemmas.List.{take_more}
use Rattle.smf_ask.specs.Selections.{before_last_colon, or_here}

moved_out : (b : ℕ) (bs : List ℕ) (t : Bool)
    → or_here b (if t then Some bs else before_last_colon bs) ≡ (if t then Some (b ∷ bs) else or_here b (before_last_colon bs))
moved_out b bs true = refl
moved_out b bs false = refl

-- the last byte of a text is its last colon, or that stands before it
last_byte : (text : List ℕ) (b : ℕ)
    → before_last_colon (text ++ b ∷ []) ≡ (if b == 58 then Some text else before_last_colon text)
last_byte [] b = refl
last_byte (x ∷ xs) b = ap (or_here x) (last_byte xs b) ∙ moved_out x xs (b == 58)

is_colon : (b : ℕ) (t : Bool) → b ≡ 58 → t ≡ (b == 58) → t ≡ true
is_colon b t e f = grind (arith, nat_tests)

is_other : (b : ℕ) (t : Bool) → (b ≡ 58 → ⊥) → t ≡ (b == 58) → t ≡ false
is_other b t n f = grind (arith, nat_tests)

pub at_colon : (text : List ℕ) (i j : ℕ) → j ≡ i + 1 → i < length text → get_or text i 0 ≡ 58
    → before_last_colon (take j text) ≡ Some (take i text)
at_colon text i j e low found =
    ap (λ (n : ℕ). before_last_colon (take n text)) e
    ∙ ap before_last_colon (take_more text i 0 low)
    ∙ last_byte (take i text) (get_or text i 0)
    ∙ ap (λ (t : Bool). if t then Some (take i text) else before_last_colon (take i text))
    (is_colon (get_or text i 0) (get_or text i 0 == 58) found refl)

pub no_colon : (text : List ℕ) (i j : ℕ) → j ≡ i + 1 → i < length text → (get_or text i 0 ≡ 58 → ⊥)
    → before_last_colon (take j text) ≡ before_last_colon (take i text)
no_colon text i j e low other =
    ap (λ (n : ℕ). before_last_colon (take n text)) e
    ∙ ap before_last_colon (take_more text i 0 low)
    ∙ last_byte (take i text) (get_or text i 0)
    ∙ ap (λ (t : Bool). if t then Some (take i text) else before_last_colon (take i text))
    (is_other (get_or text i 0) (get_or text i 0 == 58) other refl)

pub no_byte : (text : List ℕ) (n : ℕ) → n ≤ 0 → before_last_colon (take n text) ≡ None
no_byte text n none =
    let e : n ≡ 0 = omega arith in
    ap (λ (k : ℕ). before_last_colon (take k text)) e

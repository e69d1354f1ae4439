-- The kept part of a line shows which text the line is.
use Rattle.std.proofs.Common.{◌≡◌, ◌≤◌, ◌<◌, ℕ, suc, List, length, length-take-le, take, take_all, Bool, true, false, refl, ap, arith, lt-ltb, ltb-true, ltb-false}
use Rattle.smf_lines.specs.Lines.{is_too_long, front_of_line, text_in}

long_take : (n : ℕ) (line : List ℕ) → n < length line → length (take (suc n) line) ≡ suc n
long_take n line h = length-take-le (suc n) line (omega arith)

text_by : (v : Bool) (line : List ℕ) → is_too_long line ≡ v → text_in (front_of_line line) ≡ text_in line
unfolding text_in
text_by true line e =
    let long : 65536 < length line = ltb-true _ _ e in
    let size : length (front_of_line line) ≡ 65537 = long_take 65536 line long in
    let e' : is_too_long (front_of_line line) ≡ true = lt-ltb 65536 (length (front_of_line line)) (omega arith) in
    rw (e, e') refl
text_by false line e =
    let short : length line ≤ 65536 = ltb-false _ _ e in
    ap text_in (take_all 65537 line (omega arith))

pub text_kept : (line : List ℕ) → text_in (front_of_line line) ≡ text_in line
text_kept line = text_by (is_too_long line) line refl

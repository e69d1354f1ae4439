-- The lines that are texts.
use Rattle.std.proofs.Common.{◌≡◌, ◌≤◌, ◌<◌, false, true, refl, List, ℕ, length, le-ltb, lt-ltb, nat_lt, Some, None}
use Rattle.std.specs.Str.{is_utf8}
use Rattle.smf_lines.specs.Lines.{is_too_long, text_in}

pub text_short : (line : List ℕ) → length line ≤ 65536 → is_utf8 line ≡ true → Some line ≡ text_in line
unfolding text_in
text_short line short text =
    let fits : nat_lt 65536 (length line) ≡ false = le-ltb _ _ short in
    rw (fits, text) refl

pub none_of_bytes : (line : List ℕ) → length line ≤ 65536 → is_utf8 line ≡ false → None ≡ text_in line
unfolding text_in
none_of_bytes line short bytes =
    let fits : nat_lt 65536 (length line) ≡ false = le-ltb _ _ short in
    rw (fits, bytes) refl

pub none_long : (line : List ℕ) → 65536 < length line → None ≡ text_in line
unfolding text_in
none_long line long =
    let past : is_too_long line ≡ true = lt-ltb 65536 (length line) long in
    rw past refl

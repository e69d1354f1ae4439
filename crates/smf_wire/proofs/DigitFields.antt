-- Bytes as digits: what is written is read, and what is read was written so.
use Rattle.std.proofs.Common.{◌≡◌, ℕ, suc, ◌*◌, ◌/◌, ◌%◌, ◌<◌, ◌==◌, not, List, [], ◌∷◌, length, get_or, Bool, true, false, cond, Option, Some, None, Result, Ok, Err, refl, sym, ◌∙◌, ap, subst, arith, eqb-true, codes, inl, inr}
use Rattle.std.specs.Cmp.Lexicographic.{pointwise}
use Rattle.std.specs.List.{list_all}
use Rattle.std.specs.Prelude.{nat_eq, slice_index}
use Rattle.std.specs.Result.{result_ok}
use Rattle.std.proofs.lemmas.Bool.{cases_lt}
use Rattle.std.proofs.lemmas.List.{get_or_past}
use Rattle.std.proofs.lemmas.Str.{IsUtf8-from_ascii}
use Rattle.std.specs.Str.{IsAscii, IsUtf8}
use Rattle.hex.specs.Hex.{IsBytes, decode_of, encode_lower, encode_with, hex_digit_value, lower_digits}
use Rattle.hex.specs.declared.error.FromHexError.{FromHexError}
use Rattle.hex.proofs.HexLemmas.{IsDigits-lower_digits, decode_of-encode_lower, decode_of-ok, length-encode_with}
use Rattle.smf_fmri.specs.Counts.{no_space}
use Rattle.smf_fmri.proofs.Patterns.{same_text}
use Rattle.smf_method.specs.Commands.{IsCommand}
use Rattle.smf_method.proofs.PlainTexts.{byte_is_ascii}
use Rattle.smf_value.specs.Texts.{is_plain}
use Rattle.smf_state.proofs.Lines.{IsSpelling, OptionalIn, optional}
use Rattle.smf_state.specs.Fields.{optional_text, read_optional}
use Rattle.smf_wire.specs.Digits.{hex_text, read_hex, written_so}
use Rattle.smf_wire.specs.Lines.{AreBytes, IsBody, is_body}
use Rattle.smf_wire.specs.Grammar.{body_in, command_in, read_body, read_command}

itself : (t : List ℕ) → pointwise nat_eq t t ≡ true
itself t = (same_text t t).1 refl

-- two digits are no dash
no_dash : (v : Bool) (b : ℕ) (bs : List ℕ) → pointwise nat_eq (encode_lower (b ∷ bs)) (codes "-") ≡ v → v ≡ false
no_dash false b bs e = refl
no_dash true b bs e =
    let is : encode_lower (b ∷ bs) ≡ codes "-" = (same_text (encode_lower (b ∷ bs)) (codes "-")).0 e in
    let one : length (encode_lower (b ∷ bs)) ≡ 1 = ap (λ (l : List ℕ). length l) is in
    let two : length (encode_lower (b ∷ bs)) ≡ 2 * length (b ∷ bs) = length-encode_with lower_digits (b ∷ bs) in
    absurd (omega arith)

hex_reads : (bytes : List ℕ) → IsBytes bytes → read_hex (hex_text bytes) ≡ Some bytes
unfolding read_hex
hex_reads [] h = refl
hex_reads (b ∷ bs) h =
    let other : pointwise nat_eq (encode_lower (b ∷ bs)) (codes "-") ≡ false = no_dash _ b bs refl in
    let again : decode_of (encode_lower (b ∷ bs)) ≡ Ok (b ∷ bs) = decode_of-encode_lower (b ∷ bs) h in
    let same : pointwise nat_eq (encode_lower (b ∷ bs)) (encode_lower (b ∷ bs)) ≡ true =
    itself (encode_lower (b ∷ bs)) in
    rw (other, again, same) refl

was_ok : (r : Result (List ℕ) FromHexError) (bytes : List ℕ) → result_ok r ≡ Some bytes → r ≡ Ok bytes
was_ok (Ok x) bytes h = let is : x ≡ bytes = cc in ap (λ (y : List ℕ). Ok y) is
was_ok (Err e) bytes h = cc

same_by : (v : Bool) (t xs bytes : List ℕ) → pointwise nat_eq (hex_text xs) t ≡ v → cond v (Some xs) None ≡ Some bytes
    → (xs ≡ bytes) × (t ≡ hex_text bytes)
same_by true t xs bytes e h = let is : xs ≡ bytes = cc in (is, sym ((same_text (hex_text xs) t).0 e) ∙ ap hex_text is)
same_by false t xs bytes e h = cc

decoded_is : (o : Option (List ℕ)) (t bytes : List ℕ) → result_ok (decode_of t) ≡ o → written_so t o ≡ Some bytes
    → (t ≡ hex_text bytes) × IsBytes bytes
decoded_is None t bytes e h = cc
decoded_is (Some xs) t bytes e h =
    let found = same_by _ t xs bytes refl h in
    let ok = decode_of-ok t xs (was_ok (decode_of t) xs e) in
    (found.1, subst IsBytes found.0 ok.3)

hex_by : (v : Bool) (t bytes : List ℕ) → pointwise nat_eq t (codes "-") ≡ v
    → cond v (Some []) (written_so t (result_ok (decode_of t))) ≡ Some bytes → (t ≡ hex_text bytes) × IsBytes bytes
hex_by true t [] e h = ((same_text t (codes "-")).0 e, λ i. omega arith)
hex_by true t (b ∷ bs) e h = cc
hex_by false t bytes e h = decoded_is _ t bytes refl h

hex_spelled : (t bytes : List ℕ) → read_hex t ≡ Some bytes → (t ≡ hex_text bytes) × IsBytes bytes
unfolding read_hex
hex_spelled t bytes h = hex_by _ t bytes refl h

-- no digit is a space
other_by : (v : Bool) (c d : ℕ) → (c == 32) ≡ v → hex_digit_value c ≡ Some d → not (c == 32) ≡ true
other_by true c d e h = let is : c ≡ 32 = eqb-true c 32 e in let none : hex_digit_value 32 ≡ Some d = rw is at h in cc
other_by false c d e h = rw e refl

digit_other : (d : ℕ) → d < 16 → not (slice_index lower_digits d == 32) ≡ true
digit_other d low = other_by _ (slice_index lower_digits d) d refl (IsDigits-lower_digits d low)

digits_spaceless : (bytes : List ℕ) → IsBytes bytes → no_space (encode_lower bytes) ≡ true
unfolding encode_with
digits_spaceless [] h = refl
digits_spaceless (b ∷ bs) h =
    let small : b < 256 = h 0 in
    let high = digit_other (b / 16) (omega arith) in
    let low = digit_other (b % 16) (omega arith) in
    let rest = digits_spaceless bs (λ i. h (suc i)) in
    rw (high, low) rest

hex_spaceless : (bytes : List ℕ) → IsBytes bytes → no_space (hex_text bytes) ≡ true
hex_spaceless [] h = refl
hex_spaceless (b ∷ bs) h = digits_spaceless (b ∷ bs) h

-- ---- commands

plain_ascii : (text : List ℕ) → list_all is_plain text ≡ true → IsAscii text
plain_ascii text h i =
    elim (cases_lt i (length text)) [
      | inl low ↦ byte_is_ascii text i h low
      | inr past ↦ let none : get_or text i 0 ≡ 0 = get_or_past text i 0 past in rw none (omega arith)
    ]

command_bytes : (text : List ℕ) → IsCommand text → IsBytes text
command_bytes text h i = let small : slice_index text i < 128 = plain_ascii text h.plain i in omega arith

-- a text that is not in UTF-8 is no command
pub no_command : (v : Bool) (text : List ℕ) → list_all is_plain text ≡ v → (IsUtf8 text → ⊥)
    → None ≡ cond v (Some text) None
no_command true text e wrong = absurd (wrong (IsUtf8-from_ascii text (plain_ascii text e)))
no_command false text e wrong = refl

command_by : (v : Bool) (xs text : List ℕ) → list_all is_plain xs ≡ v → cond v (Some xs) None ≡ Some text
    → (xs ≡ text) × IsCommand text
command_by true xs text e h = let is : xs ≡ text = cc in (is, record { plain = rw (← is) e })
command_by false xs text e h = cc

command_is : (o : Option (List ℕ)) (t text : List ℕ) → read_hex t ≡ o → command_in o ≡ Some text
    → (t ≡ hex_text text) × IsCommand text
command_is None t text e h = cc
command_is (Some xs) t text e h =
    let found = command_by _ xs text refl h in
    let was = hex_spelled t xs e in
    (was.0 ∙ ap hex_text found.0, found.1)

command_reads : (text : List ℕ) → IsCommand text → read_command (hex_text text) ≡ Some text
command_reads text h = ap command_in (hex_reads text (command_bytes text h)) ∙ rw h.plain refl

pub command : IsSpelling read_command hex_text IsCommand
command = record {
  reads = command_reads;
  spelled = λ t text h. command_is (read_hex t) t text refl h;
  spaceless = λ text h. hex_spaceless text (command_bytes text h);
}

-- ---- bodies

abbrev pub IsWritten : List ℕ → Type 0
IsWritten bytes = AreBytes bytes × IsBody bytes

body_by : (v : Bool) (xs bytes : List ℕ) → is_body xs ≡ v → cond v (Some xs) None ≡ Some bytes
    → (xs ≡ bytes) × IsBody bytes
body_by true xs bytes e h = let is : xs ≡ bytes = cc in (is, record { read = rw (← is) e })
body_by false xs bytes e h = cc

body_is : (o : Option (List ℕ)) (t bytes : List ℕ) → read_hex t ≡ o → body_in o ≡ Some bytes
    → (t ≡ hex_text bytes) × IsWritten bytes
body_is None t bytes e h = cc
body_is (Some xs) t bytes e h =
    let found = body_by _ xs bytes refl h in
    let was = hex_spelled t xs e in
    (was.0 ∙ ap hex_text found.0, (record { small = subst IsBytes found.0 was.1 }, found.1))

body_reads : (bytes : List ℕ) → IsWritten bytes → read_body (hex_text bytes) ≡ Some bytes
body_reads bytes h = ap body_in (hex_reads bytes h.0.small) ∙ rw h.1.read refl

body : IsSpelling read_body hex_text IsWritten
body = record {
  reads = body_reads;
  spelled = λ t bytes h. body_is (read_hex t) t bytes refl h;
  spaceless = λ bytes h. hex_spaceless bytes h.0.small;
}

no_dash_body : read_body (codes "-") ≡ None
unfolding read_hex
no_dash_body = refl

pub optional_body : IsSpelling (read_optional read_body) (optional_text hex_text) (OptionalIn IsWritten)
optional_body = optional body no_dash_body

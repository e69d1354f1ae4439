-- Bytes as digits: what is written is read, and what is read was written so.
use Rattle.std.proofs.Common.{◌≡◌, ℕ, suc, ◌*◌, ◌/◌, ◌%◌, ◌<◌, ◌==◌, not, List, [], ◌∷◌, length, Bool, true, false, cond, Option, Some, None, Result, Ok, Err, refl, sym, ◌∙◌, ap, subst, arith, eqb-true, codes}
use Rattle.std.specs.Cmp.Lexicographic.{pointwise}
use Rattle.std.specs.Prelude.{nat_eq, slice_index}
use Rattle.std.specs.Result.{result_ok}
use Rattle.hex.specs.Hex.{IsBytes, decode_of, encode_lower, encode_with, hex_digit_value, lower_digits}
use Rattle.hex.specs.declared.error.FromHexError.{FromHexError}
use Rattle.hex.proofs.HexLemmas.{IsDigits-lower_digits, decode_of-encode_lower, decode_of-ok, length-encode_with}
use Rattle.smf_fmri.specs.Counts.{no_space}
use Rattle.smf_fmri.proofs.Patterns.{same_text}
use Rattle.smf_state.proofs.Lines.{IsSpelling}
use Rattle.smf_record.specs.Digits.{hex_text, read_hex, written_so}

itself : (t : List ℕ) → pointwise nat_eq t t ≡ true
itself t = (same_text t t).1 refl

-- two digits are no dash
no_dash : (v : Bool) (b : ℕ) (bs : List ℕ) → pointwise nat_eq (encode_lower (b ∷ bs)) (codes "-") ≡ v → v ≡ false
no_dash false b bs e = refl
no_dash true b bs e =
    let is : encode_lower (b ∷ bs) ≡ codes "-" = (same_text (encode_lower (b ∷ bs)) (codes "-")).0 e in
    let one : length (encode_lower (b ∷ bs)) ≡ 1 = ap (λ (l : List ℕ). length l) is in
    let two : length (encode_lower (b ∷ bs)) ≡ 2 * length (b ∷ bs) = length-encode_with lower_digits (b ∷ bs) in
    absurd (omega arith)

hex_reads : (bytes : List ℕ) → IsBytes bytes → read_hex (hex_text bytes) ≡ Some bytes
unfolding read_hex
hex_reads [] h = refl
hex_reads (b ∷ bs) h =
    let other : pointwise nat_eq (encode_lower (b ∷ bs)) (codes "-") ≡ false = no_dash _ b bs refl in
    let again : decode_of (encode_lower (b ∷ bs)) ≡ Ok (b ∷ bs) = decode_of-encode_lower (b ∷ bs) h in
    let same : pointwise nat_eq (encode_lower (b ∷ bs)) (encode_lower (b ∷ bs)) ≡ true =
    itself (encode_lower (b ∷ bs)) in
    rw (other, again, same) refl

was_ok : (r : Result (List ℕ) FromHexError) (bytes : List ℕ) → result_ok r ≡ Some bytes → r ≡ Ok bytes
was_ok (Ok x) bytes h = let is : x ≡ bytes = cc in ap (λ (y : List ℕ). Ok y) is
was_ok (Err e) bytes h = cc

same_by : (v : Bool) (t xs bytes : List ℕ) → pointwise nat_eq (hex_text xs) t ≡ v → cond v (Some xs) None ≡ Some bytes
    → (xs ≡ bytes) × (t ≡ hex_text bytes)
same_by true t xs bytes e h = let is : xs ≡ bytes = cc in (is, sym ((same_text (hex_text xs) t).0 e) ∙ ap hex_text is)
same_by false t xs bytes e h = cc

decoded_is : (o : Option (List ℕ)) (t bytes : List ℕ) → result_ok (decode_of t) ≡ o → written_so t o ≡ Some bytes
    → (t ≡ hex_text bytes) × IsBytes bytes
decoded_is None t bytes e h = cc
decoded_is (Some xs) t bytes e h =
    let found = same_by _ t xs bytes refl h in
    let ok = decode_of-ok t xs (was_ok (decode_of t) xs e) in
    (found.1, subst IsBytes found.0 ok.3)

hex_by : (v : Bool) (t bytes : List ℕ) → pointwise nat_eq t (codes "-") ≡ v
    → cond v (Some []) (written_so t (result_ok (decode_of t))) ≡ Some bytes → (t ≡ hex_text bytes) × IsBytes bytes
hex_by true t [] e h = ((same_text t (codes "-")).0 e, λ i. omega arith)
hex_by true t (b ∷ bs) e h = cc
hex_by false t bytes e h = decoded_is _ t bytes refl h

hex_spelled : (t bytes : List ℕ) → read_hex t ≡ Some bytes → (t ≡ hex_text bytes) × IsBytes bytes
unfolding read_hex
hex_spelled t bytes h = hex_by _ t bytes refl h

-- no digit is a space
other_by : (v : Bool) (c d : ℕ) → (c == 32) ≡ v → hex_digit_value c ≡ Some d → not (c == 32) ≡ true
other_by true c d e h = let is : c ≡ 32 = eqb-true c 32 e in let none : hex_digit_value 32 ≡ Some d = rw is at h in cc
other_by false c d e h = rw e refl

digit_other : (d : ℕ) → d < 16 → not (slice_index lower_digits d == 32) ≡ true
digit_other d low = other_by _ (slice_index lower_digits d) d refl (IsDigits-lower_digits d low)

digits_spaceless : (bytes : List ℕ) → IsBytes bytes → no_space (encode_lower bytes) ≡ true
unfolding encode_with
digits_spaceless [] h = refl
digits_spaceless (b ∷ bs) h =
    let small : b < 256 = h 0 in
    let high = digit_other (b / 16) (omega arith) in
    let low = digit_other (b % 16) (omega arith) in
    let rest = digits_spaceless bs (λ i. h (suc i)) in
    rw (high, low) rest

hex_spaceless : (bytes : List ℕ) → IsBytes bytes → no_space (hex_text bytes) ≡ true
hex_spaceless [] h = refl
hex_spaceless (b ∷ bs) h = digits_spaceless (b ∷ bs) h

pub bytes : IsSpelling read_hex hex_text IsBytes
bytes = record {
  reads = hex_reads;
  spelled = hex_spelled;
  spaceless = hex_spaceless;
}

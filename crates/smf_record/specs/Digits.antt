-- Bytes as two lower-case digits each.
use Rattle.std.specs.Prelude.{ℕ, List, [], ◌∷◌, nat_eq, codes, if◌then◌else◌, Option, Some, None}
use Rattle.std.specs.Cmp.Lexicographic.{pointwise}
use Rattle.std.specs.Result.{result_ok}
use Rattle.hex.specs.Hex.{decode_of, encode_lower}

-- no bytes are written as "-"
abbrev pub hex_text : List ℕ → List ℕ
hex_text [] = codes "-"
hex_text (b ∷ bs) = encode_lower (b ∷ bs)

-- the bytes, if the text is how they are written
abbrev pub written_so : List ℕ → Option (List ℕ) → Option (List ℕ)
written_so text None = None
written_so text (Some bytes) = if pointwise nat_eq (hex_text bytes) text then Some bytes else None

unfoldable pub read_hex : List ℕ → Option (List ℕ)
read_hex text = if pointwise nat_eq text (codes "-") then Some [] else written_so text (result_ok (decode_of text))

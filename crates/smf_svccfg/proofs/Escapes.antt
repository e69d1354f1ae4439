-- A text in quotes is text.
use lib.Utf8.{encode}
use Rattle.std.proofs.Common.{◌≡◌, ℕ, List, [], ◌∷◌, ◌++◌, Bool, true, false, cond, refl, sym, subst, append_assoc}
use Rattle.std.proofs.lemmas.Str.{IsUtf8-append}
use Rattle.std.specs.List.{flat_map}
use Rattle.std.specs.Str.{IsUtf8}
use Rattle.smf_svccfg.specs.Tokens.{escaped_text, escaped_byte, is_mark}
use Rattle.smf_svccfg.proofs.TokenReads.{around, mark_ascii}

backslash_is_text : IsUtf8 (92 ∷ [])
unfolding encode
backslash_is_text = (92 ∷ [], (refl, refl))

byte_by : (v : Bool) (xs ys rest : List ℕ) (b : ℕ) → is_mark b ≡ v → IsUtf8 (xs ++ b ∷ ys)
    → ((before : List ℕ) → IsUtf8 (before ++ ys) → IsUtf8 (before ++ rest))
    → IsUtf8 (xs ++ (cond v (92 ∷ b ∷ []) (b ∷ []) ++ rest))
byte_by true xs ys rest b e u on =
    let a = around xs ys b u (mark_ascii b e) in
    let longer : IsUtf8 (xs ++ 92 ∷ b ∷ ys) =
    IsUtf8-append xs (92 ∷ b ∷ ys) a.before (IsUtf8-append (92 ∷ []) (b ∷ ys) backslash_is_text a.from) in
    subst IsUtf8 (append_assoc xs (92 ∷ b ∷ []) rest)
    (on (xs ++ 92 ∷ b ∷ []) (subst IsUtf8 (sym (append_assoc xs (92 ∷ b ∷ []) ys)) longer))
byte_by false xs ys rest b e u on =
    subst IsUtf8 (append_assoc xs (b ∷ []) rest)
    (on (xs ++ b ∷ []) (subst IsUtf8 (sym (append_assoc xs (b ∷ []) ys)) u))

escaped_behind : (xs ys : List ℕ) → IsUtf8 (xs ++ ys) → IsUtf8 (xs ++ flat_map escaped_byte ys)
escaped_behind xs [] u = u
escaped_behind xs (b ∷ ys) u =
    byte_by (is_mark b) xs ys (flat_map escaped_byte ys) b refl u (λ before t. escaped_behind before ys t)

pub escaped_is_text : (text : List ℕ) → IsUtf8 text → IsUtf8 (escaped_text text)
escaped_is_text text u = escaped_behind [] text u

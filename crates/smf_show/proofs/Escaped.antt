-- A text with backslashes before bytes that a shell reads as more than themselves is text.
use lib.Utf8.{encode}
use Rattle.std.proofs.Common.{◌≡◌, ℕ, ◌+◌, ◌<◌, List, [], ◌∷◌, ◌++◌, length, take, drop, get_or, Bool, true, false, cond, refl, sym, ◌∙◌, ap, subst, arith, append_assoc, length-append}
use Rattle.std.proofs.Math.Seq.{drop-append-add, take-append_seam, get_or-append_seam}
use Rattle.std.proofs.lemmas.Bool.Decides.{nat_tests}
use Rattle.std.proofs.lemmas.List.{append-nil}
use Rattle.std.proofs.lemmas.Str.{IsCharBoundary-after_ascii, IsCharBoundary-before_ascii, IsUtf8-append, IsUtf8-drop, IsUtf8-take}
use Rattle.std.specs.List.{flat_map}
use Rattle.std.specs.Str.{IsUtf8}
use Rattle.smf_show.specs.Properties.{escaped_byte, escaped_text, is_meta}

meta_ascii : (b : ℕ) → is_meta b ≡ true → b < 128
meta_ascii b h = grind (arith, nat_tests)

-- a text around a byte of ASCII
record IsAround (xs : List ℕ) (b : ℕ) (ys : List ℕ) : Type 0 where
  pub before : IsUtf8 xs
  pub from : IsUtf8 (b ∷ ys)
  pub behind : IsUtf8 ys

around_by : (xs ys bs : List ℕ) (b : ℕ) → bs ≡ xs ++ b ∷ ys → IsUtf8 bs → b < 128 → IsAround xs b ys
around_by xs ys bs b e u low =
    let seam : get_or bs (length xs) 0 ≡ b = ap (λ (l : List ℕ). get_or l (length xs) 0) e
    ∙ get_or-append_seam xs b ys 0 in
    let longer : length bs ≡ length xs + length (b ∷ ys) = ap length e ∙ length-append xs (b ∷ ys) in
    let inside : length xs < length bs = omega (arith, longer) in
    let ascii : get_or bs (length xs) 0 < 128 = omega (arith, seam) in
    let front = IsUtf8-take bs (length xs) u (IsCharBoundary-before_ascii bs (length xs) inside ascii) in
    let back = IsUtf8-drop bs (length xs) u (IsCharBoundary-before_ascii bs (length xs) inside ascii) in
    let rest = IsUtf8-drop bs (length xs + 1) u (IsCharBoundary-after_ascii bs (length xs) u inside ascii) in
    record {
      before = subst IsUtf8 (ap (λ (l : List ℕ). take (length xs) l) e ∙ take-append_seam xs (b ∷ ys)) front;
      from = subst IsUtf8 (ap (λ (l : List ℕ). drop (length xs) l) e ∙ drop_seam xs (b ∷ ys)) back;
      behind = subst IsUtf8 (ap (λ (l : List ℕ). drop (length xs + 1) l) e ∙ drop-append-add xs (b ∷ ys) 1) rest;
    }
  where
    drop_seam : (xs ys : List ℕ) → drop (length xs) (xs ++ ys) ≡ ys
    drop_seam [] ys = refl
    drop_seam (x ∷ xs) ys = drop_seam xs ys

around : (xs ys : List ℕ) (b : ℕ) → IsUtf8 (xs ++ b ∷ ys) → b < 128 → IsAround xs b ys
around xs ys b u low = around_by xs ys (xs ++ b ∷ ys) b refl u low

backslash_is_text : IsUtf8 (92 ∷ [])
unfolding encode
backslash_is_text = (92 ∷ [], (refl, refl))

byte_by : (v : Bool) (xs ys rest : List ℕ) (b : ℕ) → is_meta b ≡ v → IsUtf8 (xs ++ b ∷ ys)
    → ((before : List ℕ) → IsUtf8 (before ++ ys) → IsUtf8 (before ++ rest))
    → IsUtf8 (xs ++ (cond v (92 ∷ b ∷ []) (b ∷ []) ++ rest))
byte_by true xs ys rest b e u on =
    let a = around xs ys b u (meta_ascii b e) in
    let longer : IsUtf8 (xs ++ 92 ∷ b ∷ ys) =
    IsUtf8-append xs (92 ∷ b ∷ ys) a.before (IsUtf8-append (92 ∷ []) (b ∷ ys) backslash_is_text a.from) in
    subst IsUtf8 (append_assoc xs (92 ∷ b ∷ []) rest)
    (on (xs ++ 92 ∷ b ∷ []) (subst IsUtf8 (sym (append_assoc xs (92 ∷ b ∷ []) ys)) longer))
byte_by false xs ys rest b e u on =
    subst IsUtf8 (append_assoc xs (b ∷ []) rest)
    (on (xs ++ b ∷ []) (subst IsUtf8 (sym (append_assoc xs (b ∷ []) ys)) u))

escaped_behind : (xs ys : List ℕ) → IsUtf8 (xs ++ ys) → IsUtf8 (xs ++ flat_map escaped_byte ys)
escaped_behind xs [] u = u
escaped_behind xs (b ∷ ys) u =
    byte_by (is_meta b) xs ys (flat_map escaped_byte ys) b refl u (λ before t. escaped_behind before ys t)

-- an escaped text is text
pub escaped_is_text : (text : List ℕ) → IsUtf8 text → IsUtf8 (escaped_text text)
escaped_is_text text u = escaped_behind [] text u

-- The name that is read has the form of one, what has it is read, and it is in ASCII.
use Rattle.std.proofs.Common.{◌≡◌, ℕ, ◌+◌, ◌≤◌, ◌<◌, List, [], ◌∷◌, length, get_or, zero, Bool, true, false, cond, ◌&&◌, Option, Some, None, refl, arith, nat_lt, ltb-true, lt-ltb, suc, ap}
use Rattle.std.specs.Prelude.{is_none}
use Rattle.std.specs.Char.{is_ascii_alphanumeric}
use Rattle.std.specs.Str.{is_utf8}
use Rattle.std.proofs.lemmas.Str.{IsUtf8-from_ascii, is_utf8-from_IsUtf8}
use Rattle.std.proofs.lemmas.Bool.Decides.{nat_tests}
use Rattle.smf_fmri.specs.Name.{is_word_byte}
use Rattle.smf_fmri.specs.Grammar.{AllWord, IsComponent}
use Rattle.smf_value.specs.Names.{rest_wrong, name_wrong, is_name, IsNameText}

rest_by : (v w : Bool) (b at : ℕ) (bs : List ℕ) → is_word_byte b ≡ v → nat_lt at 255 ≡ w
    → cond (v && w) (rest_wrong (at + 1) bs) (Some at) ≡ None
    → (at + 1 ≤ 255 → rest_wrong (at + 1) bs ≡ None → AllWord bs × (at + 1 + length bs ≤ 255))
    → AllWord (b ∷ bs) × (at + length (b ∷ bs) ≤ 255)
rest_by true true b at bs e f h k = let low : at < 255 = ltb-true at 255 f in let p = k (omega arith) h in
    ((e, p.0), omega arith)
rest_by true false b at bs e f h k = cc
rest_by false w b at bs e f h k = cc

rest_is : (bs : List ℕ) (at : ℕ) → at ≤ 255 → rest_wrong at bs ≡ None → AllWord bs × (at + length bs ≤ 255)
rest_is [] at low h = (tt, omega arith)
rest_is (b ∷ bs) at low h = rest_by _ _ b at bs refl refl h (λ l k. rest_is bs (at + 1) l k)

first_by : (v : Bool) (b : ℕ) (bs : List ℕ) → is_ascii_alphanumeric b ≡ v → cond v (rest_wrong 1 bs) (Some 0) ≡ None
    → IsNameText (b ∷ bs)
first_by false b bs e h = cc
first_by true b bs e h = let p = rest_is bs 1 (omega arith) h in record { component = (e, p.0); bounded = omega arith }

pub name_is : (text : List ℕ) → name_wrong text ≡ None → IsNameText text
name_is [] h = cc
name_is (b ∷ bs) h = first_by _ b bs refl h

rest_reads : (bs : List ℕ) (at : ℕ) → AllWord bs → at + length bs ≤ 255 → rest_wrong at bs ≡ None
rest_reads [] at words low = refl
rest_reads (b ∷ bs) at words low = let less : nat_lt at 255 ≡ true = lt-ltb at 255 (omega arith) in
    rw (words.0, less) (rest_reads bs (at + 1) words.1 (omega arith))

name_reads_by : (text : List ℕ) → IsComponent text → length text ≤ 255 → name_wrong text ≡ None
name_reads_by [] h low = absurd h
name_reads_by (b ∷ bs) h low = rw h.0 (rest_reads bs 1 h.1 (omega arith))

pub name_reads : (text : List ℕ) → IsNameText text → name_wrong text ≡ None
name_reads text h = name_reads_by text h.component h.bounded

none_is : {A : Type 0} (o : Option A) → is_none o ≡ true → o ≡ None
none_is None h = refl
none_is (Some x) h = cc

pub no_wrong : (text : List ℕ) → is_name text ≡ true → name_wrong text ≡ None
no_wrong text h = none_is (name_wrong text) h

pub name_is_short : (text : List ℕ) → is_name text ≡ true → length text ≤ 255
name_is_short text h = (name_is text (no_wrong text h)).bounded

word_is_ascii : (b : ℕ) → is_word_byte b ≡ true → b < 128
word_is_ascii b h = grind (arith, nat_tests)

letter_is_ascii : (b : ℕ) → is_ascii_alphanumeric b ≡ true → b < 128
letter_is_ascii b h = grind (arith, nat_tests)

words_are_ascii : (bs : List ℕ) → AllWord bs → (i : ℕ) → get_or bs i 0 < 128
words_are_ascii [] h i = omega arith
words_are_ascii (b ∷ bs) h zero = word_is_ascii b h.0
words_are_ascii (b ∷ bs) h (suc i) = words_are_ascii bs h.1 i

component_is_ascii : (bs : List ℕ) → IsComponent bs → (i : ℕ) → get_or bs i 0 < 128
component_is_ascii [] h i = absurd h
component_is_ascii (b ∷ bs) h zero = letter_is_ascii b h.0
component_is_ascii (b ∷ bs) h (suc i) = words_are_ascii bs h.1 i

pub name_is_utf8 : (text : List ℕ) → is_name text ≡ true → is_utf8 text ≡ true
name_is_utf8 text h =
    is_utf8-from_IsUtf8 text
    (IsUtf8-from_ascii text (component_is_ascii text (name_is text (no_wrong text h)).component))

pub is_name_at : (text : List ℕ) → name_wrong text ≡ None → is_name text ≡ true
is_name_at text h = ap is_none h

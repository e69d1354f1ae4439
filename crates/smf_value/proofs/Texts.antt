-- Texts of the kinds astring, ustring and fmri.
use Rattle.std.proofs.Common.{◌≡◌, ℕ, zero, suc, ◌<◌, List, [], ◌∷◌, ◌++◌, ◌∙◌, drop, length, get_or, Bool, true, false, cond, ◌&&◌, Option, Some, None, option_map, Result, Ok, Err, MatchResult, refl, sym, ap, arith}
use Rattle.std.specs.Prelude.{nat_le, nat_eq}
use Rattle.std.specs.Result.{result_ok, is_ok}
use Rattle.std.specs.Borrow.{Bor}
use Rattle.std.specs.List.{list_all}
use Rattle.std.specs.Str.{IsUtf8, is_utf8}
use Rattle.std.proofs.lemmas.Str.{IsUtf8-from_ascii, is_utf8-from_IsUtf8, IsUtf8-from_is_utf8}
use Rattle.std.proofs.lemmas.Bool.Decides.{nat_tests}
use Rattle.std.specs.List.{starts_with}
use Rattle.std.specs.Cmp.Lexicographic.{pointwise}
use Rattle.std.proofs.lemmas.Slice.Eq.{starts_is}
use Rattle.std.proofs.lemmas.Bool.Decides.{Decides-eqb}
use Rattle.smf_fmri.specs.Name.{name_of_text, strip}
use Rattle.smf_value.specs.Texts.{is_plain, is_astring, IsShort}

-- both tests of a pair
pub both : (a b : Bool) → a && b ≡ true → (a ≡ true) × (b ≡ true)
both true b h = (refl, h)
both false b h = cc

plain_is_ascii : (b : ℕ) → is_plain b ≡ true → b < 128
plain_is_ascii b h = grind (arith, nat_tests)

all_are_ascii : (bs : List ℕ) → list_all is_plain bs ≡ true → (i : ℕ) → get_or bs i 0 < 128
all_are_ascii [] h i = omega arith
all_are_ascii (b ∷ bs) h zero = plain_is_ascii b (both (is_plain b) (list_all is_plain bs) h).0
all_are_ascii (b ∷ bs) h (suc i) = all_are_ascii bs (both (is_plain b) (list_all is_plain bs) h).1 i

pub astring_is_utf8 : (text : List ℕ) → is_astring text ≡ true → is_utf8 text ≡ true
astring_is_utf8 text h =
    is_utf8-from_IsUtf8 text
    (IsUtf8-from_ascii text (all_are_ascii text (both (nat_le (length text) 4096) (list_all is_plain text) h).1))

-- the text that bytes are, if they are one
pub text_is : {E : Type 0} (r : Result (Bor (List ℕ)) E) (bytes : List ℕ) (v : Bool) (Q : E → Type 0)
    → is_utf8 bytes ≡ v → MatchResult r (λ s. (s.now ≡ bytes) × IsUtf8 bytes) (λ e. ¬ (IsUtf8 bytes) × Q e)
    → option_map {U = List ℕ} (λ x. x.now) (result_ok r) ≡ cond v (Some bytes) None
text_is (Ok s) bytes true Q e h = ap Some h.0
text_is (Ok s) bytes false Q e h = let k : is_utf8 bytes ≡ true = is_utf8-from_IsUtf8 bytes h.1 in cc
text_is (Err f) bytes true Q e h = absurd (h.0 (IsUtf8-from_is_utf8 bytes e))
text_is (Err f) bytes false Q e h = refl

-- the same if a test says that they are one
pub text_if : (o : Option (Bor (List ℕ))) (bytes : List ℕ) (v w : Bool)
    → option_map {U = List ℕ} (λ x. x.now) o ≡ cond v (Some bytes) None → v ≡ true → w ≡ true
    → option_map {U = List ℕ} (λ x. x.now) o ≡ cond w (Some bytes) None
text_if o bytes true true h e f = h
text_if o bytes true false h e f = cc
text_if o bytes false w h e f = cc

not_true : (v : Bool) → (v ≡ true → ⊥) → false ≡ v
not_true true h = absurd (h refl)
not_true false h = refl

pub utf8_is : {E : Type 0} (r : Result (Bor (List ℕ)) E) (bytes : List ℕ) (Q : E → Type 0)
    → MatchResult r (λ s. (s.now ≡ bytes) × IsUtf8 bytes) (λ e. ¬ (IsUtf8 bytes) × Q e)
    → is_ok r ≡ is_utf8 bytes
utf8_is (Ok s) bytes Q h = sym (is_utf8-from_IsUtf8 bytes h.1)
utf8_is (Err f) bytes Q h = not_true (is_utf8 bytes) (λ e. h.0 (IsUtf8-from_is_utf8 bytes e))

-- the rest after a prefix
strip_by : (v : Bool) (p text rest : List ℕ) → starts_with nat_eq text p ≡ v
    → cond v (Some (drop (length p) text)) None ≡ Some rest → text ≡ p ++ rest
strip_by true p text rest e h = let same : drop (length p) text ≡ rest = cc in
    (starts_is Decides-eqb text p _ refl).0 e ∙ ap (λ l. p ++ l) same
strip_by false p text rest e h = cc

pub strip_splits : (p text rest : List ℕ) → strip p text ≡ Some rest → text ≡ p ++ rest
unfolding strip
strip_splits p text rest h = strip_by _ p text rest refl h

-- a name that reads as itself is a short form
pub short_is : (name again : List ℕ) → IsUtf8 name → name_of_text name ≡ Ok again → pointwise nat_eq again name ≡ true
    → IsShort name
short_is name again u r e = record { fits = rw (is_utf8-from_IsUtf8 name u, r) e }

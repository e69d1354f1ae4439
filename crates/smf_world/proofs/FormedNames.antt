-- A name that is read is the short form of one, and a value that is read is one.
use Rattle.std.proofs.Common.{◌≡◌, ◌⊎◌, inl, inr, ℕ, zero, suc, ◌+◌, ◌<◌, ◌≤◌, ◌==◌, nat_lt, ◌&&◌, List, [], ◌∷◌, ◌++◌, length, get_or, Bool, true, false, cond, Option, Some, None, Ok, refl, sym, ap, ◌∙◌, subst, arith}
use Rattle.std.specs.Char.{is_ascii_alphanumeric}
use Rattle.std.specs.Option.{option_map_or}
use Rattle.std.proofs.lemmas.Bool.Decides.{nat_tests}
use Rattle.std.proofs.lemmas.List.{length-append}
use Rattle.smf_fmri.proofs.Patterns.{same_text}
use Rattle.std.proofs.lemmas.Str.{IsUtf8-from_ascii}
use Rattle.smf_fmri.specs.declared.reader.Place.{Place}
use Rattle.smf_fmri.specs.declared.reader.Place.TheVariants.{Start, Begin, Service, BeginInstance, Instance}
use Rattle.smf_fmri.specs.Name.{is_word_byte, long, next, short, wrong_at}
use Rattle.smf_fmri.specs.Grammar.{Spells}
use Rattle.smf_fmri.proofs.Grammar.{body_reads}
use Rattle.smf_fmri.proofs.Whole.{spelled_is_read}
use Rattle.smf_value.specs.declared.kind.Kind.{Kind}
use Rattle.smf_value.specs.declared.value.Value.{Value}
use Rattle.smf_value.specs.declared.value.Value.TheVariants.{Boolean, Count, Integer, Time, Astring, Ustring, Fmri}
use Rattle.smf_value.specs.ValueTexts.{read_value}
use Rattle.smf_value.specs.ValueTexts as values
use Rattle.smf_value.specs.Texts.{IsShort}
use Rattle.smf_value.specs.Values.{IsValue, kind_of}
use Rattle.smf_value.proofs.Texts.{short_is}
use Rattle.smf_value.proofs.ValueReads.{IsReadAs, value_read}

-- ---- names are in ASCII

word_is_ascii : (b : ℕ) → is_word_byte b ≡ true → b < 128
word_is_ascii b h = grind (arith, nat_tests)

letter_is_ascii : (b : ℕ) → is_ascii_alphanumeric b ≡ true → b < 128
letter_is_ascii b h = grind (arith, nat_tests)

byte_is_ascii : (b n : ℕ) → (b == n) ≡ true → n < 128 → b < 128
byte_is_ascii b n h low = grind (arith, nat_tests)

begin_by : (v : Bool) (b : ℕ) (p q : Place) → is_ascii_alphanumeric b ≡ v → cond v (Some p) None ≡ Some q → b < 128
begin_by true b p q e h = letter_is_ascii b e
begin_by false b p q e h = absurd cc

start_by : (v w : Bool) (b : ℕ) (q : Place) → is_ascii_alphanumeric b ≡ v → (b == 58) ≡ w
    → cond v (Some Service) (cond w (Some BeginInstance) None) ≡ Some q → b < 128
start_by true w b q e f h = letter_is_ascii b e
start_by false true b q e f h = byte_is_ascii b 58 f (omega arith)
start_by false false b q e f h = absurd cc

service_by : (u v w : Bool) (b : ℕ) (q : Place) → is_word_byte b ≡ u → (b == 47) ≡ v → (b == 58) ≡ w
    → cond u (Some Service) (cond v (Some Begin) (cond w (Some BeginInstance) None)) ≡ Some q → b < 128
service_by true v w b q d e f h = word_is_ascii b d
service_by false true w b q d e f h = byte_is_ascii b 47 e (omega arith)
service_by false false true b q d e f h = byte_is_ascii b 58 f (omega arith)
service_by false false false b q d e f h = absurd cc

instance_by : (v w : Bool) (n b : ℕ) (q : Place) → is_word_byte b ≡ v
    → cond (v && w) (Some (Instance (n + 1))) None ≡ Some q → b < 128
instance_by true w n b q e h = word_is_ascii b e
instance_by false w n b q e h = absurd cc

next_is_ascii : (p : Place) (b : ℕ) (q : Place) → next p b ≡ Some q → b < 128
next_is_ascii Start b q h = start_by _ _ b q refl refl h
next_is_ascii Begin b q h = begin_by _ b Service q refl h
next_is_ascii BeginInstance b q h = begin_by _ b (Instance 1) q refl h
next_is_ascii Service b q h = service_by _ _ _ b q refl refl refl h
next_is_ascii (Instance n) b q h = instance_by _ (nat_lt n 255) n b q refl h

abbrev AreAscii : List ℕ → Type 0
AreAscii bs = (i : ℕ) → get_or bs i 0 < 128

ascii_more : (b : ℕ) (bs : List ℕ) → b < 128 → AreAscii bs → AreAscii (b ∷ bs)
ascii_more b bs low h zero = low
ascii_more b bs low h (suc i) = h i

next_by : (p : Place) (at b : ℕ) (bs : List ℕ) (o : Option Place) → next p b ≡ o
    → option_map_or (λ q. wrong_at q (at + 1) bs) o (Some at) ≡ None
    → ((q : Place) → wrong_at q (at + 1) bs ≡ None → AreAscii bs) → AreAscii (b ∷ bs)
next_by p at b bs None e h others = absurd cc
next_by p at b bs (Some q) e h others = ascii_more b bs (next_is_ascii p b q e) (others q h)

components_are_ascii : (p : Place) (at : ℕ) (bs : List ℕ) → wrong_at p at bs ≡ None → AreAscii bs
components_are_ascii p at [] h = λ i. omega arith
components_are_ascii p at (b ∷ bs) h = next_by p at b bs (next p b) refl h (λ q k. components_are_ascii q (at + 1) bs k)

name_is_ascii : (bs : List ℕ) → AreAscii bs → AreAscii (short ++ bs)
name_is_ascii bs h =
    ascii_more 115 (118 ∷ 99 ∷ 58 ∷ 47 ∷ bs) (omega arith)
    (ascii_more 118 (99 ∷ 58 ∷ 47 ∷ bs) (omega arith)
    (ascii_more 99 (58 ∷ 47 ∷ bs) (omega arith)
    (ascii_more 58 (47 ∷ bs) (omega arith) (ascii_more 47 bs (omega arith) h))))

-- ---- the short form

no_longer : (text body : List ℕ) (scheme : List ℕ) → (scheme ≡ short) ⊎ (scheme ≡ long) → text ≡ scheme ++ body
    → length text ≤ 512 → length (short ++ body) ≤ 512
no_longer text body scheme (inl e) h low =
    let n : length text ≡ length (short ++ body) = ap length (h ∙ ap (λ (l : List ℕ). l ++ body) e) in omega arith
no_longer text body scheme (inr e) h low =
    let n : length text ≡ length (long ++ body) = ap length (h ∙ ap (λ (l : List ℕ). l ++ body) e) in
    let a : length (long ++ body) ≡ length long + length body = length-append long body in
    let b : length (short ++ body) ≡ length short + length body = length-append short body in omega arith

name_again : (text name : List ℕ) → Spells text name → Spells name name
name_again text name s =
    record {
      scheme = short;
      body = s.body;
      is_scheme = inl refl;
      is_body = s.is_body;
      spelled = s.shown;
      shown = s.shown;
      bounded = subst (λ (l : List ℕ). length l ≤ 512) (sym s.shown)
          (no_longer text s.body s.scheme s.is_scheme s.spelled s.bounded);
    }

pub spelled_is_short : (text name : List ℕ) → Spells text name → IsShort name
spelled_is_short text name s =
    let ascii : AreAscii name =
    subst AreAscii (sym s.shown)
    (name_is_ascii s.body (components_are_ascii Begin 0 s.body (body_reads s.body s.is_body))) in
    short_is name name (IsUtf8-from_ascii name ascii) (spelled_is_read name name (name_again text name s))
    ((same_text name name).1 refl)

-- ---- values

value_spelled : (v : Value) (text : List ℕ) → values.Spells text v → IsValue v
value_spelled (Boolean b) text s = tt
value_spelled (Count n) text s = s.1
value_spelled (Integer z) text s = s.1
value_spelled (Time t) text s = s.1
value_spelled (Astring a) text s = s.1
value_spelled (Ustring a) text s = s.1
value_spelled (Fmri name) text s = spelled_is_short text name s

-- a value that is read is one of that kind
pub read_is_value : (kind : Kind) (text : List ℕ) (v : Value) → read_value kind text ≡ Ok v
    → (kind_of v ≡ kind) × IsValue v
read_is_value kind text v e = let r : IsReadAs kind text v = value_read kind text v e in (r.0, value_spelled v text r.1)

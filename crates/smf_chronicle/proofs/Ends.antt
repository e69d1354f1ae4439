-- No end of a line and no blank where none may stand.
use Rattle.std.proofs.Common.{◌≡◌, ℕ, suc, ◌<◌, ◌+◌, ◌/◌, ◌%◌, ◌^◌, List, [], ◌∷◌, ◌++◌, length, Bool, true, false, not, ◌==◌, ◌&&◌, cond, Option, Some, None, Result, Ok, Err, refl, sym, ◌∙◌, ap, arith, rules, eqb-true, is_some}
use Rattle.std.specs.Char.{is_ascii_digit}
use Rattle.std.specs.Fmt.{decimal}
use Rattle.std.specs.List.{AllByRecursion, list_all}
use Rattle.std.specs.Option.{option_map_or}
use Rattle.std.specs.Prelude.{slice_index}
use Rattle.std.specs.Str.Parse.{digits_value}
use Rattle.std.proofs.lemmas.Bool.{and_parts}
use Rattle.std.proofs.lemmas.Fmt.{digits_decimal}
use Rattle.std.proofs.lemmas.List.Folds.{list_all-append}
use Rattle.std.proofs.lemmas.Str.Parse.{IsNumeralModel, numerals_by_value}
use Rattle.hex.specs.Hex.{IsBytes, encode_lower, encode_with, hex_digit_value, lower_digits}
use Rattle.hex.proofs.HexLemmas.{IsDigits-lower_digits}
use Rattle.smf_chronicle.specs.declared.entry.Entry.{Entry}
use Rattle.smf_chronicle.specs.declared.entry.Entry.TheVariants.{Happened, Life, Row, Living}
use Rattle.smf_contract.specs.declared.cookie.Method.{Method}
use Rattle.smf_contract.specs.declared.cookie.Method.TheVariants.{Start, Stop, Refresh}
use Rattle.smf_fmri.specs.Counts.{is_decimal, no_space}
use Rattle.smf_fmri.specs.Name.{name_of_text, next, wrong_at}
use Rattle.smf_fmri.specs.declared.reader.Place.{Place}
use Rattle.smf_fmri.specs.declared.reader.Place.TheVariants as places
use Rattle.smf_fmri.proofs.Whole.{name_is_short}
use Rattle.smf_state.specs.States.{state_text}
use Rattle.smf_state.specs.declared.state.State.{State}
use Rattle.smf_state.specs.declared.state.State.TheVariants.{Uninitialized, Disabled, Offline, Online, Degraded, Maintenance}
use Rattle.smf_value.specs.Texts.{is_plain}
use Rattle.smf_world.specs.declared.item.Item.TheVariants.{Boot, Committed, Held, Spawned, Emptied}
use Rattle.smf_chronicle.specs.Lines.{are_seconds, cut_at, is_clock, no_end}
use Rattle.smf_chronicle.specs.Texts.{IsEntry, entry_parts, entry_text, spaced}
use Rattle.smf_chronicle.specs.Words.{entry_word, word_text}
use Rattle.smf_method.specs.Tokens.{method_text}
use Rattle.smf_world.specs.TrailText.{next_text}
use Rattle.smf_chronicle.specs.declared.word.Word.{Word}
use Rattle.smf_chronicle.specs.declared.word.Word.TheVariants as words
use Rattle.smf_chronicle.proofs.Cuts.{cut_was, no_byte}

-- ---- bytes that pass a test are not one that does not

other_by : (v : Bool) (p : ℕ → Bool) (c b : ℕ) → (b == c) ≡ v → p c ≡ false → p b ≡ true → not v ≡ true
other_by true p c b e wrong h = let t : p c ≡ true = ap p (sym (eqb-true b c e)) ∙ h in cc
other_by false p c b e wrong h = refl

pub all_other : (p : ℕ → Bool) (c : ℕ) → p c ≡ false → (text : List ℕ) → list_all p text ≡ true
    → no_byte c text ≡ true
all_other p c wrong [] h = refl
all_other p c wrong (b ∷ bs) h =
    let parts = and_parts (p b) (list_all p bs) h in
    rw (other_by (b == c) p c b refl wrong parts.0, all_other p c wrong bs parts.1) refl

pub joined_free : (c : ℕ) (xs ys : List ℕ) → no_byte c xs ≡ true → no_byte c ys ≡ true → no_byte c (xs ++ ys) ≡ true
joined_free c xs ys h k = list_all-append (λ b. not (b == c)) xs ys ∙ rw (h, k) refl

-- ---- numbers

own : IsNumeralModel (λ ds. list_all is_ascii_digit ds ≡ true) (digits_value 10)
own = numerals_by_value (λ ds. list_all is_ascii_digit ds ≡ true) (search rules)

pub decimal_digits : (n : ℕ) → n < 2 ^ 64 → list_all is_ascii_digit (decimal n) ≡ true
decimal_digits n small = digits_decimal own n small

number_free : (n : ℕ) → n < 2 ^ 64 → no_end (decimal n) ≡ true
number_free n small = all_other is_ascii_digit 10 refl (decimal n) (decimal_digits n small)

pub digits_of : (text : List ℕ) → is_decimal text ≡ true → list_all is_ascii_digit text ≡ true
digits_of [] h = cc
digits_of (d ∷ []) h = rw h refl
digits_of (d ∷ e ∷ ds) h = (and_parts (not (d == 48)) _ h).1

-- ---- links

is_hex : ℕ → Bool
is_hex c = is_some (hex_digit_value c)

all_hex : (bytes : List ℕ) → IsBytes bytes → list_all is_hex (encode_lower bytes) ≡ true
unfolding encode_with is_hex
all_hex [] h = refl
all_hex (b ∷ bs) h =
    let small : b < 256 = h 0 in
    let high : is_hex (slice_index lower_digits (b / 16)) ≡ true =
    ap (λ (o : Option ℕ). is_some o) (IsDigits-lower_digits (b / 16) (omega arith)) in
    let low : is_hex (slice_index lower_digits (b % 16)) ≡ true =
    ap (λ (o : Option ℕ). is_some o) (IsDigits-lower_digits (b % 16) (omega arith)) in
    rw (high, low, all_hex bs (λ i. h (suc i))) refl

pub hex_free : (bytes : List ℕ) → IsBytes bytes → no_end (encode_lower bytes) ≡ true
unfolding is_hex
hex_free bytes h = all_other is_hex 10 refl (encode_lower bytes) (all_hex bytes h)

pub hex_spaceless : (bytes : List ℕ) → IsBytes bytes → no_space (encode_lower bytes) ≡ true
unfolding is_hex
hex_spaceless bytes h = all_other is_hex 32 refl (encode_lower bytes) (all_hex bytes h)

-- ---- times

clock_by : (o : Option (List ℕ × List ℕ)) (c : ℕ) (text : List ℕ) → is_ascii_digit c ≡ false → (46 == c) ≡ false
    → cut_at 46 text ≡ o → are_seconds o ≡ true → no_byte c text ≡ true
clock_by None c text wrong point e h = cc
clock_by (Some x) c text wrong point e h =
    let parts = and_parts (is_decimal x.0) _ h in
    let digits = and_parts (length x.1 == 3) _ parts.1 in
    let seconds : no_byte c x.0 ≡ true = all_other is_ascii_digit c wrong x.0 (digits_of x.0 parts.0) in
    let rest : no_byte c x.1 ≡ true = all_other is_ascii_digit c wrong x.1 digits.1 in
    rw (cut_was 46 text x e) (joined_free c x.0 (46 ∷ x.1) seconds (rw (point, rest) refl))

pub clock_free : (text : List ℕ) → is_clock text ≡ true → no_end text ≡ true
clock_free text h = clock_by (cut_at 46 text) 10 text refl refl refl h

pub clock_spaceless : (text : List ℕ) → is_clock text ≡ true → no_space text ≡ true
clock_spaceless text h = clock_by (cut_at 46 text) 32 text refl refl refl h

-- ---- names

no_next : (p : Place) → next p 10 ≡ None
no_next places.Start = refl
no_next places.Begin = refl
no_next places.Service = refl
no_next places.BeginInstance = refl
no_next (places.Instance n) = refl

not_end : (v : Bool) (p : Place) (b : ℕ) (o : Option Place) (at : ℕ) (bs : List ℕ) → (b == 10) ≡ v → next p b ≡ o
    → option_map_or (λ q. wrong_at q (at + 1) bs) o (Some at) ≡ None → not v ≡ true
not_end true p b None at bs e h w = cc
not_end true p b (Some q) at bs e h w = let is : b ≡ 10 = eqb-true b 10 e in let none : next p b ≡ None =
    rw is (no_next p) in cc
not_end false p b o at bs e h w = refl

goes_on : (o : Option Place) (at : ℕ) (bs : List ℕ)
    → ((q : Place) → wrong_at q (at + 1) bs ≡ None → no_end bs ≡ true)
    → option_map_or (λ q. wrong_at q (at + 1) bs) o (Some at) ≡ None → no_end bs ≡ true
goes_on None at bs k w = cc
goes_on (Some q) at bs k w = k q w

body_free : (p : Place) (at : ℕ) (bs : List ℕ) → wrong_at p at bs ≡ None → no_end bs ≡ true
body_free p at [] w = refl
body_free p at (b ∷ bs) w =
    let here : not (b == 10) ≡ true = not_end _ p b (next p b) at bs refl refl w in
    let there : no_end bs ≡ true = goes_on (next p b) at bs (λ q. body_free q (at + 1) bs) w in
    rw (here, there) refl

name_free : (name : List ℕ) → name_of_text name ≡ Ok name → no_end name ≡ true
name_free name h = let s = name_is_short name h in rw s.shown (body_free places.Begin 0 s.rest s.body)

-- ---- words

state_free : (s : State) → no_end (state_text s) ≡ true
state_free Uninitialized = refl
state_free Disabled = refl
state_free Offline = refl
state_free Online = refl
state_free Degraded = refl
state_free Maintenance = refl

next_free : (s : Option State) → no_end (next_text s) ≡ true
next_free None = refl
next_free (Some s) = state_free s

method_free : (m : Method) → no_end (method_text m) ≡ true
method_free Start = refl
method_free Stop = refl
method_free Refresh = refl

word_free : (w : Word) → no_end (word_text w) ≡ true
word_free words.Boot = refl
word_free words.Committed = refl
word_free words.Held = refl
word_free words.Spawned = refl
word_free words.Emptied = refl
word_free words.Life = refl
word_free words.Row = refl
word_free words.Living = refl

-- ---- entries

spaced_free : (part : List ℕ) (parts : List (List ℕ)) → no_end part ≡ true
    → AllByRecursion (λ p. no_end p ≡ true) parts → no_end (spaced part parts) ≡ true
spaced_free part [] h k = h
spaced_free part (next ∷ parts) h k =
    joined_free 10 part (32 ∷ spaced next parts) h (spaced_free next parts k.0 k.1)

parts_free : (e : Entry) → IsEntry e → AllByRecursion (λ p. no_end p ≡ true) (entry_parts e)
parts_free (Happened Boot) h = tt
parts_free (Happened (Committed i n s x)) h =
    (number_free i h.0, (number_free n h.1, (state_free s, (next_free x, tt))))
parts_free (Happened (Held name launch i n s)) h =
    (name_free name h.0.reads, (number_free launch h.1, (number_free i h.2, (number_free n h.3, (state_free s, tt)))))
parts_free (Happened (Spawned c i run m revision command)) h = (
  number_free c h.0,
  (
    number_free i h.1,
    (
      number_free run h.2,
      (method_free m, (number_free revision h.3, (all_other is_plain 10 refl command h.4.plain, tt))),
    ),
  ),
)
parts_free (Happened (Emptied c)) h = (number_free c h, tt)
parts_free Life h = tt
parts_free (Row i n s) h = (number_free i h.0, (number_free n h.1, (state_free s, tt)))
parts_free (Living c i) h = (number_free c h.0, (number_free i h.1, tt))

pub entry_free : (e : Entry) → IsEntry e → no_end (entry_text e) ≡ true
entry_free e h = spaced_free (word_text (entry_word e)) (entry_parts e) (word_free (entry_word e)) (parts_free e h)

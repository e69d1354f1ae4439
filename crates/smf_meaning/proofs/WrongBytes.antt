-- A reader of names stops at the first byte that is wrong.
use Rattle.std.proofs.Common.{◌≡◌, inl, inr, ℕ, ◌+◌, List, [], ◌∷◌, ◌++◌, length, drop, Bool, true, false, cond, Option, Some, None, option_map, Err, refl, sym, ap, ◌∙◌, subst, arith, nat_lt, ◌==◌, ltb-true, eqb-true}
use Rattle.std.specs.List.{starts_with}
use Rattle.std.specs.Option.{option_map_or}
use Rattle.std.specs.Prelude.{nat_eq}
use Rattle.std.proofs.lemmas.Bool.{ltb-false}
use Rattle.std.proofs.lemmas.Slice.Eq.{starts_is}
use Rattle.std.proofs.lemmas.Bool.Decides.{Decides-eqb}
use Rattle.smf_fmri.specs.declared.fault.FmriFault.{FmriFault}
use Rattle.smf_fmri.specs.declared.fault.FmriFault.TheVariants.{Empty, TooLong, Scheme, Component}
use Rattle.smf_fmri.specs.declared.reader.Place.{Place}
use Rattle.smf_fmri.specs.declared.reader.Place.TheVariants.{Start, Begin, Service, BeginInstance, Instance}
use Rattle.smf_fmri.specs.Name.{long, next, name_of_text, read_abbreviation, read_behind, read_components, read_pattern, read_pattern_behind, short, split_scheme, strip, wrong_at}
use Rattle.smf_fmri.specs.Grammar.{IsAbbreviation, IsBody}
use Rattle.smf_fmri.proofs.Grammar.{abbreviation_is, abbreviation_reads, body_is, body_reads}
use Rattle.smf_meaning.specs.FirstWrong.{IsFirstWrong, IsWrongByte, Stops}
use Rattle.smf_meaning.specs.NameFaults.{BeginsWith, HasNoScheme, IsNameFault, IsPatternFault, IsSchemeOf, IsSized, IsWrongName}

-- ---- byte by byte

abbrev Reads : Place → ℕ → List ℕ → Type 0
Reads p at text = wrong_at p at text ≡ None

-- the place that is told, counted from at
record Told (p : Place) (at : ℕ) (text : List ℕ) (place : ℕ) : Type 0 where
  before : List ℕ
  after : List ℕ
  first : IsFirstWrong (Reads p at) text before after
  place_is : place ≡ at + length before

-- the last byte that may come: a letter, if a component is to begin
abbrev last_of : Place → List ℕ
last_of Start = 97 ∷ []
last_of Begin = 97 ∷ []
last_of BeginInstance = 97 ∷ []
last_of Service = []
last_of (Instance n) = []

ends_so : (p : Place) (at : ℕ) → Reads p at (last_of p)
ends_so Start at = refl
ends_so Begin at = refl
ends_so BeginInstance at = refl
ends_so Service at = refl
ends_so (Instance n) at = refl

told_end : (p : Place) (at place : ℕ) → wrong_at p at [] ≡ Some place → Told p at [] place
told_end Start at place e =
    record {
      before = [];
      after = [];
      first = record { split = refl; ending = 97 ∷ []; goes_on = refl; stops = λ h. cc };
      place_is =
          let same : at ≡ place = cc in omega arith;
    }
told_end Begin at place e =
    record {
      before = [];
      after = [];
      first = record { split = refl; ending = 97 ∷ []; goes_on = refl; stops = λ h. cc };
      place_is =
          let same : at ≡ place = cc in omega arith;
    }
told_end BeginInstance at place e =
    record {
      before = [];
      after = [];
      first = record { split = refl; ending = 97 ∷ []; goes_on = refl; stops = λ h. cc };
      place_is =
          let same : at ≡ place = cc in omega arith;
    }
told_end Service at place e = absurd cc
told_end (Instance n) at place e = absurd cc

told_by : (o : Option Place) (p : Place) (at b : ℕ) (bs : List ℕ) (place : ℕ) → next p b ≡ o
    → option_map_or (λ q. wrong_at q (at + 1) bs) o (Some at) ≡ Some place
    → ((q : Place) → wrong_at q (at + 1) bs ≡ Some place → Told q (at + 1) bs place) → Told p at (b ∷ bs) place
told_by None p at b bs place h e more =
    record {
      before = [];
      after = b ∷ bs;
      first = record {
        split = refl;
        ending = last_of p;
        goes_on = ends_so p at;
        stops = λ rest reads. let bad : option_map_or (λ q. wrong_at q (at + 1) rest) None (Some at) ≡ None =
            rw h at reads in cc;
      };
      place_is = let same : at ≡ place = cc in omega arith;
    }
told_by (Some q) p at b bs place h e more =
    let t = more q e in
    record {
      before = b ∷ t.before;
      after = t.after;
      first = record {
        split = ap (λ (l : List ℕ). b ∷ l) t.first.split;
        ending = t.first.ending;
        goes_on = ap (λ o. option_map_or (λ r. wrong_at r (at + 1) (t.before ++ t.first.ending)) o (Some at)) h
            ∙ t.first.goes_on;
        stops = off t.before t.after t.first.stops;
      };
      place_is = let i = t.place_is in omega arith;
    }
  where
    off : (before after : List ℕ) → Stops (Reads q (at + 1)) before after → Stops (Reads p at) (b ∷ before) after
    off before [] stops =
        λ reads. stops (sym (ap (λ o. option_map_or (λ r. wrong_at r (at + 1) before) o (Some at)) h) ∙ reads)
    off before (c ∷ cs) stops =
        λ rest reads. stops rest
        (sym (ap (λ o. option_map_or (λ r. wrong_at r (at + 1) (before ++ c ∷ rest)) o (Some at)) h) ∙ reads)

told : (p : Place) (at : ℕ) (text : List ℕ) (place : ℕ) → wrong_at p at text ≡ Some place → Told p at text place
told p at [] place e = told_end p at place e
told p at (b ∷ bs) place e = told_by (next p b) p at b bs place refl e (λ q h. told q (at + 1) bs place h)

-- a reader reads exactly the good texts
pub wrong_byte : (IsRead IsGood : List ℕ → Type 0) (text before after : List ℕ) (place : ℕ)
    → ((l : List ℕ) → IsRead l → IsGood l) → ((l : List ℕ) → IsGood l → IsRead l)
    → IsFirstWrong IsRead text before after → place ≡ length before → IsWrongByte IsGood text place
wrong_byte IsRead IsGood text before after place is reads w e =
    record {
      before = before;
      after = after;
      first = record {
        split = w.split;
        ending = w.ending;
        goes_on = is (before ++ w.ending) w.goes_on;
        stops = off after w.stops;
      };
      place_is = e;
    }
  where
    off : (l : List ℕ) → Stops IsRead before l → Stops IsGood before l
    off [] stops = λ good. stops (reads before good)
    off (c ∷ cs) stops = λ rest good. stops rest (reads (before ++ c ∷ rest) good)

body_wrong : (text : List ℕ) (place : ℕ) → wrong_at Begin 0 text ≡ Some place → IsWrongByte IsBody text place
body_wrong text place e =
    let t = told Begin 0 text place e in
    wrong_byte (Reads Begin 0) IsBody text t.before t.after place body_is body_reads t.first (t.place_is ∙ omega arith)

abbreviation_wrong : (text : List ℕ) (place : ℕ) → wrong_at Start 0 text ≡ Some place
    → IsWrongByte IsAbbreviation text place
abbreviation_wrong text place e =
    let t = told Start 0 text place e in
    wrong_byte (Reads Start 0) IsAbbreviation text t.before t.after place abbreviation_is abbreviation_reads t.first
    (t.place_is ∙ omega arith)

-- ---- schemes

stripped : (v : Bool) (p text rest : List ℕ) → starts_with nat_eq text p ≡ v
    → cond v (Some (drop (length p) text)) None ≡ Some rest → text ≡ p ++ rest
stripped true p text rest e h = let same : drop (length p) text ≡ rest = cc in
    (starts_is Decides-eqb text p _ refl).0 e ∙ ap (λ (l : List ℕ). p ++ l) same
stripped false p text rest e h = absurd cc

strip_some : (p text rest : List ℕ) → strip p text ≡ Some rest → text ≡ p ++ rest
unfolding strip
strip_some p text rest e = stripped _ p text rest refl e

not_stripped : (v : Bool) (p text : List ℕ) → starts_with nat_eq text p ≡ v
    → cond v (Some (drop (length p) text)) None ≡ None → BeginsWith p text → ⊥
not_stripped true p text e h b = absurd cc
not_stripped false p text e h b = let t : starts_with nat_eq text p ≡ true =
    (starts_is Decides-eqb text p _ refl).1 b.0 b.1 in cc

strip_none : (p text : List ℕ) → strip p text ≡ None → BeginsWith p text → ⊥
unfolding strip
strip_none p text e = not_stripped _ p text refl e

-- the scheme that was split off, or that there is none
abbrev HasSplit : List ℕ → Option (ℕ × List ℕ) → Type 0
HasSplit text None = HasNoScheme text
HasSplit text (Some s) = (scheme : List ℕ) × IsSchemeOf text scheme × (text ≡ scheme ++ s.1) × (s.0 ≡ length scheme)

split_by : (a b : Option (List ℕ)) (text : List ℕ) → strip long text ≡ a → strip short text ≡ b
    → HasSplit text
    (option_map_or {U = Option (ℕ × List ℕ)} (λ r. Some (16, r)) a (option_map {U = ℕ × List ℕ} (λ r. (5, r)) b))
split_by (Some r) b text h k = (long, inl refl, strip_some long text r h, refl)
split_by None (Some r) text h k = (short, inr (refl, strip_none long text h), strip_some short text r k, refl)
split_by None None text h k = (strip_none long text h, strip_none short text k)

has_split : (text : List ℕ) → HasSplit text (split_scheme text)
has_split text = split_by (strip long text) (strip short text) text refl refl

-- ---- names

components_fault : (text : List ℕ) (s : ℕ × List ℕ) (o : Option ℕ) (fault : FmriFault) → HasSplit text (Some s)
    → wrong_at Begin 0 s.1 ≡ o
    → read_components s.0 s.1 o ≡ Err fault → (place : ℕ) × (fault ≡ Component place) × IsWrongName text place
components_fault text s None fault split w e = absurd cc
components_fault text s (Some inside) fault split w e = (
  s.0 + inside,
  cc,
  record {
    scheme = split.0;
    body = s.1;
    inside = inside;
    is_scheme = split.1;
    split = split.2;
    wrong = body_wrong s.1 inside w;
    place_is = ap (λ n. n + inside) split.3;
  },
)

behind_fault : (text : List ℕ) (o : Option (ℕ × List ℕ)) (fault : FmriFault) → IsSized text → HasSplit text o
    → read_behind o ≡ Err fault → IsNameFault text fault
behind_fault text None fault sized split e = let same : Scheme ≡ fault = cc in
    subst (IsNameFault text) same (sized, split)
behind_fault text (Some s) fault sized split e =
    let c = components_fault text s (wrong_at Begin 0 s.1) fault split refl e in
    subst (IsNameFault text) (sym c.1) (sized, c.2)

no_length : (text : List ℕ) → (length text == 0) ≡ true → text ≡ []
no_length [] e = refl
no_length (b ∷ bs) e = let none : length (b ∷ bs) ≡ 0 = eqb-true (length (b ∷ bs)) 0 e in absurd (omega arith)

is_sized : (text : List ℕ) → (length text == 0) ≡ false → nat_lt 512 (length text) ≡ false → IsSized text
is_sized text h k = (
  (λ none. let empty : (length text == 0) ≡ true = ap (λ (l : List ℕ). length l == 0) none in cc),
  ltb-false 512 (length text) k,
)

name_by : (a b : Bool) (text : List ℕ) (fault : FmriFault) → (length text == 0) ≡ a → nat_lt 512 (length text) ≡ b
    → cond a (Err Empty) (cond b (Err TooLong) (read_behind (split_scheme text))) ≡ Err fault → IsNameFault text fault
name_by true b text fault h k e = let same : Empty ≡ fault = cc in subst (IsNameFault text) same (no_length text h)
name_by false true text fault h k e = let same : TooLong ≡ fault = cc in
    subst (IsNameFault text) same (ltb-true 512 (length text) k)
name_by false false text fault h k e =
    behind_fault text (split_scheme text) fault (is_sized text h k) (has_split text) e

pub name_fault : (text : List ℕ) (fault : FmriFault) → name_of_text text ≡ Err fault → IsNameFault text fault
unfolding name_of_text
name_fault text fault e = name_by _ _ text fault refl refl e

-- ---- patterns

abbreviation_fault : (text : List ℕ) (o : Option ℕ) (fault : FmriFault) → IsSized text → HasNoScheme text
    → wrong_at Start 0 text ≡ o
    → read_abbreviation text o ≡ Err fault → IsPatternFault text fault
abbreviation_fault text None fault sized none w e = absurd cc
abbreviation_fault text (Some place) fault sized none w e =
    let same : Component place ≡ fault = cc in
    subst (IsPatternFault text) same (sized, inr (none, abbreviation_wrong text place w))

pattern_behind : (text : List ℕ) (o : Option (ℕ × List ℕ)) (fault : FmriFault) → IsSized text → HasSplit text o
    → read_pattern_behind text o ≡ Err fault
    → IsPatternFault text fault
pattern_behind text None fault sized split e = abbreviation_fault text (wrong_at Start 0 text) fault sized split refl e
pattern_behind text (Some s) fault sized split e =
    let c = components_fault text s (wrong_at Begin 0 s.1) fault split refl e in
    subst (IsPatternFault text) (sym c.1) (sized, inl c.2)

pattern_by : (a b : Bool) (text : List ℕ) (fault : FmriFault) → (length text == 0) ≡ a → nat_lt 512 (length text) ≡ b
    → cond a (Err Empty) (cond b (Err TooLong) (read_pattern_behind text (split_scheme text))) ≡ Err fault
    → IsPatternFault text fault
pattern_by true b text fault h k e = let same : Empty ≡ fault = cc in
    subst (IsPatternFault text) same (no_length text h)
pattern_by false true text fault h k e = let same : TooLong ≡ fault = cc in
    subst (IsPatternFault text) same (ltb-true 512 (length text) k)
pattern_by false false text fault h k e =
    pattern_behind text (split_scheme text) fault (is_sized text h k) (has_split text) e

pub pattern_fault : (text : List ℕ) (fault : FmriFault) → read_pattern text ≡ Err fault → IsPatternFault text fault
unfolding read_pattern
pattern_fault text fault e = pattern_by _ _ text fault refl refl e

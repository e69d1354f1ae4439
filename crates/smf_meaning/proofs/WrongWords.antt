-- The name of a group or a property is wrong at its first wrong byte.
use Rattle.std.proofs.Common.{◌≡◌, ℕ, ◌+◌, List, [], ◌∷◌, ◌++◌, length, Bool, true, false, cond, Option, Some, None, Err, refl, sym, ap, ◌∙◌, subst, arith, nat_lt, ◌&&◌}
use Rattle.std.specs.Char.{is_ascii_alphanumeric}
use Rattle.smf_fmri.specs.Name.{is_word_byte}
use Rattle.smf_value.specs.declared.fault.NameFault.{NameFault}
use Rattle.smf_value.specs.declared.fault.NameFault.TheVariants.{Component}
use Rattle.smf_value.specs.Names.{IsNameText, name_wrong, read_by, read_name, rest_wrong}
use Rattle.smf_value.proofs.Names.{name_is, name_reads}
use Rattle.smf_meaning.specs.FirstWrong.{IsFirstWrong, IsWrongByte, Stops}
use Rattle.smf_meaning.specs.NameFaults.{IsWordFault}
use Rattle.smf_meaning.proofs.WrongBytes.{wrong_byte}

abbrev Goes : ℕ → List ℕ → Type 0
Goes at text = rest_wrong at text ≡ None

record Told (at : ℕ) (text : List ℕ) (place : ℕ) : Type 0 where
  before : List ℕ
  after : List ℕ
  first : IsFirstWrong (Goes at) text before after
  place_is : place ≡ at + length before

told_by : (v : Bool) (at b : ℕ) (bs : List ℕ) (place : ℕ) → (is_word_byte b && nat_lt at 255) ≡ v
    → cond v (rest_wrong (at + 1) bs) (Some at) ≡ Some place
    → (rest_wrong (at + 1) bs ≡ Some place → Told (at + 1) bs place) → Told at (b ∷ bs) place
told_by false at b bs place h e more =
    record {
      before = [];
      after = b ∷ bs;
      first = record {
        split = refl;
        ending = [];
        goes_on = refl;
        stops = λ rest goes. let bad : cond false (rest_wrong (at + 1) rest) (Some at) ≡ None = rw h at goes in cc;
      };
      place_is = let same : at ≡ place = cc in omega arith;
    }
told_by true at b bs place h e more =
    let t = more e in
    record {
      before = b ∷ t.before;
      after = t.after;
      first = record {
        split = ap (λ (l : List ℕ). b ∷ l) t.first.split;
        ending = t.first.ending;
        goes_on = ap (λ w. cond w (rest_wrong (at + 1) (t.before ++ t.first.ending)) (Some at)) h ∙ t.first.goes_on;
        stops = off t.before t.after t.first.stops;
      };
      place_is = let i = t.place_is in omega arith;
    }
  where
    off : (before after : List ℕ) → Stops (Goes (at + 1)) before after → Stops (Goes at) (b ∷ before) after
    off before [] stops = λ goes. stops (sym (ap (λ w. cond w (rest_wrong (at + 1) before) (Some at)) h) ∙ goes)
    off before (c ∷ cs) stops =
        λ rest goes. stops rest (sym (ap (λ w. cond w (rest_wrong (at + 1) (before ++ c ∷ rest)) (Some at)) h) ∙ goes)

told : (at : ℕ) (text : List ℕ) (place : ℕ) → rest_wrong at text ≡ Some place → Told at text place
told at [] place e = absurd cc
told at (b ∷ bs) place e = told_by (is_word_byte b && nat_lt at 255) at b bs place refl e (told (at + 1) bs place)

abbrev Reads : List ℕ → Type 0
Reads text = name_wrong text ≡ None

wrong_by : (v : Bool) (b : ℕ) (bs : List ℕ) (place : ℕ) → is_ascii_alphanumeric b ≡ v
    → cond v (rest_wrong 1 bs) (Some 0) ≡ Some place
    → IsWrongByte IsNameText (b ∷ bs) place
wrong_by false b bs place h e =
    wrong_byte Reads IsNameText (b ∷ bs) [] (b ∷ bs) place name_is name_reads
    (record {
      split = refl;
      ending = 97 ∷ [];
      goes_on = refl;
      stops = λ rest reads. let bad : cond false (rest_wrong 1 rest) (Some 0) ≡ None = rw h at reads in cc;
    })
    (let same : 0 ≡ place = cc in sym same)
wrong_by true b bs place h e =
    let t = told 1 bs place e in
    wrong_byte Reads IsNameText (b ∷ bs) (b ∷ t.before) t.after place name_is name_reads
    (record {
      split = ap (λ (l : List ℕ). b ∷ l) t.first.split;
      ending = t.first.ending;
      goes_on = ap (λ w. cond w (rest_wrong 1 (t.before ++ t.first.ending)) (Some 0)) h ∙ t.first.goes_on;
      stops = off t.before t.after t.first.stops;
    })
    (let i = t.place_is in omega arith)
  where
    off : (before after : List ℕ) → Stops (Goes 1) before after → Stops Reads (b ∷ before) after
    off before [] stops = λ reads. stops (sym (ap (λ w. cond w (rest_wrong 1 before) (Some 0)) h) ∙ reads)
    off before (c ∷ cs) stops =
        λ rest reads. stops rest (sym (ap (λ w. cond w (rest_wrong 1 (before ++ c ∷ rest)) (Some 0)) h) ∙ reads)

wrong : (text : List ℕ) (place : ℕ) → name_wrong text ≡ Some place → IsWrongByte IsNameText text place
wrong [] place e =
    wrong_byte Reads IsNameText [] [] [] place name_is name_reads
    (record { split = refl; ending = 97 ∷ []; goes_on = refl; stops = λ reads. cc })
    (let same : 0 ≡ place = cc in sym same)
wrong (b ∷ bs) place e = wrong_by (is_ascii_alphanumeric b) b bs place refl e

fault_by : (text : List ℕ) (o : Option ℕ) (fault : NameFault) → name_wrong text ≡ o → read_by text o ≡ Err fault
    → IsWordFault text fault
fault_by text None fault w e = absurd cc
fault_by text (Some place) fault w e = let same : Component place ≡ fault = cc in
    subst (IsWordFault text) same (wrong text place w)

pub word_fault : (text : List ℕ) (fault : NameFault) → read_name text ≡ Err fault → IsWordFault text fault
unfolding read_name
word_fault text fault e = fault_by text (name_wrong text) fault refl e

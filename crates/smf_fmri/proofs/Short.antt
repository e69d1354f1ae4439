-- Names in the short form: how they are read again, and that no space stands in them.
use Rattle.std.proofs.Common.{◌≡◌, ℕ, ◌+◌, List, [], ◌∷◌, Bool, true, false, not, ◌==◌, cond, Option, Some, None, Result, Ok, Err, refl, sym, ◌∙◌, ap, eqb-true, is_some}
use Rattle.std.specs.Cmp.Lexicographic.{pointwise}
use Rattle.std.specs.Option.{option_map_or}
use Rattle.std.specs.Prelude.{nat_eq}
use Rattle.smf_fmri.specs.declared.fault.FmriFault.{FmriFault}
use Rattle.smf_fmri.specs.declared.reader.Place.{Place}
use Rattle.smf_fmri.specs.declared.reader.Place.TheVariants.{Start, Begin, Service, BeginInstance, Instance}
use Rattle.smf_fmri.specs.Counts.{no_space}
use Rattle.smf_fmri.specs.Name.{next, wrong_at, name_of_text}
use Rattle.smf_fmri.specs.Patterns.{IsInstanceName, instance_of, short_instance, read_short}
use Rattle.smf_fmri.proofs.Patterns.{same_text}
use Rattle.smf_fmri.proofs.Whole.{name_is_short}

-- no reader goes on after a space
no_next : (p : Place) → next p 32 ≡ None
no_next Start = refl
no_next Begin = refl
no_next Service = refl
no_next BeginInstance = refl
no_next (Instance n) = refl

not_space : (v : Bool) (p : Place) (b : ℕ) (o : Option Place) (at : ℕ) (bs : List ℕ) → (b == 32) ≡ v → next p b ≡ o
    → option_map_or (λ q. wrong_at q (at + 1) bs) o (Some at) ≡ None → not v ≡ true
not_space true p b None at bs e h w = cc
not_space true p b (Some q) at bs e h w = let is : b ≡ 32 = eqb-true b 32 e in let none : next p b ≡ None =
    rw is (no_next p) in cc
not_space false p b o at bs e h w = refl

goes_on : (o : Option Place) (at : ℕ) (bs : List ℕ)
    → ((q : Place) → wrong_at q (at + 1) bs ≡ None → no_space bs ≡ true)
    → option_map_or (λ q. wrong_at q (at + 1) bs) o (Some at) ≡ None → no_space bs ≡ true
goes_on None at bs k w = cc
goes_on (Some q) at bs k w = k q w

spaceless : (p : Place) (at : ℕ) (bs : List ℕ) → wrong_at p at bs ≡ None → no_space bs ≡ true
spaceless p at [] w = refl
spaceless p at (b ∷ bs) w =
    let here : not (b == 32) ≡ true = not_space _ p b (next p b) at bs refl refl w in
    let there : no_space bs ≡ true = goes_on (next p b) at bs (λ q. spaceless q (at + 1) bs) w in
    rw (here, there) refl

-- no space stands in a name
pub name_spaceless : (name : List ℕ) → name_of_text name ≡ Ok name → no_space name ≡ true
name_spaceless name h = let s = name_is_short name h in rw s.shown (spaceless Begin 0 s.rest s.body)

-- the name of an instance is read again
pub short_again : (name : List ℕ) → IsInstanceName name → read_short name ≡ Some name
unfolding read_short
short_again name h = rw (h.reads, (same_text name name).1 refl, h.names) refl

named_by : (a b : Bool) (text name found : List ℕ) → pointwise nat_eq name text ≡ a → is_some (instance_of name) ≡ b
    → cond a (cond b (Some name) None) None ≡ Some found → name_of_text text ≡ Ok name
    → (text ≡ found) × IsInstanceName found
named_by true true text name found e i h r =
    let is : name ≡ found = cc in
    let same : name ≡ text = (same_text name text).0 e in
    let shown : text ≡ found = sym same ∙ is in
    (shown, record { reads = ap name_of_text (sym shown) ∙ r ∙ ap Ok is; names = rw (← is) i })
named_by true false text name found e i h r = cc
named_by false b text name found e i h r = cc

short_by : (text found : List ℕ) (r : Result (List ℕ) FmriFault) → name_of_text text ≡ r
    → short_instance text r ≡ Some found → (text ≡ found) × IsInstanceName found
short_by text found (Ok name) e h = named_by _ _ text name found refl refl h e
short_by text found (Err fault) e h = cc

-- a text that is read in the short form is the name of an instance, as it stands
pub short_is_name : (text name : List ℕ) → read_short text ≡ Some name → (text ≡ name) × IsInstanceName name
unfolding read_short
short_is_name text name h = short_by text name (name_of_text text) refl h

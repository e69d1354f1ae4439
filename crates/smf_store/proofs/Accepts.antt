-- The rows that a reading accepts: names of their kinds, and numbers within their limits.
use Rattle.std.proofs.Common.{◌≡◌, ◌≤◌, ◌&&◌, ℕ, ℤ, pos, negsuc, List, ◌∷◌, ◌++◌, nat_eq, Bool, true, false, cond, Option, Some, None, is_some, Result, Ok, Err, codes, refl, ap, subst, ◌∙◌, leb-true}
use Rattle.std.specs.Cmp.Lexicographic.{pointwise}
use Rattle.sqlite.specs.declared.types.Value.{Value}
use Rattle.sqlite.specs.Order.{Row, column}
use Rattle.smf_fmri.specs.declared.fault.FmriFault.{FmriFault}
use Rattle.smf_fmri.specs.Patterns.{IsInstanceName, IsServiceName, instance_of, read_short}
use Rattle.smf_fmri.specs.Name.{name_of_text}
use Rattle.smf_fmri.proofs.Patterns.{same_text}
use Rattle.smf_fmri.proofs.Short.{short_is_name}
use Rattle.smf_model.specs.declared.held.Instance.{Instance}
use Rattle.smf_model.specs.declared.held.Launch.{Launch}
use Rattle.smf_laws.specs.Consistent.{IsLaunchHeld}
use Rattle.smf_store.specs.declared.counter_rows.Counters.{Counters}
use Rattle.smf_store.specs.declared.counter_rows.StoreVersion.{StoreVersion}
use Rattle.smf_store.specs.Judged.{counters_said, is_within, number_of, number_said, value_of}
use Rattle.smf_store.specs.RowValues.{◌>>=◌, count_in, value_if, greatest, instance_said, joined_name, launch_said, name_said, number_in, optional_in, service_said, short_by, short_service, state_said, text_in}
use Rattle.smf_store.proofs.Makes.{some_is}

-- ---- options and tests

pub none_is : {X : Type 0} (x : X) → None ≡ Some x → ⊥
none_is x e = cc

-- the result of a reading after another
pub bind_is : {A B : Type 0} (o : Option A) (f : A → Option B) (y : B) → (o >>= f) ≡ Some y
    → (x : A) × (o ≡ Some x) × (f x ≡ Some y)
bind_is None f y e = absurd (none_is y e)
bind_is (Some x) f y e = (x, refl, e)

pub passes : {X : Type 0} (b : Bool) (x y : X) → value_if b x ≡ Some y → (b ≡ true) × (x ≡ y)
passes true x y e = (refl, some_is x y e)
passes false x y e = absurd (none_is y e)

pub parts : (a b : Bool) → (a && b) ≡ true → (a ≡ true) × (b ≡ true)
parts true b e = (refl, e)
parts false b e = absurd cc

-- ---- numbers

number_low : (v : Value) (n : ℕ) → number_in v ≡ Some n → n ≤ greatest
number_low v n e =
    let b = bind_is (count_in v) _ n e in
    let g = passes _ b.0 n b.2 in
    subst (λ (m : ℕ). m ≤ greatest) g.1 (leb-true b.0 greatest g.0)

integer_low : (v : ℤ) (n : ℕ) → number_of v ≡ Some n → n ≤ greatest
integer_low (pos m) n e =
    let g = passes _ m n e in
    subst (λ (z : ℕ). z ≤ greatest) g.1 (leb-true m greatest g.0)
integer_low (negsuc m) n e = absurd (none_is n e)

said_low : (key : List ℕ) (rows : List Row) (n : ℕ) → number_said key rows ≡ Some n → n ≤ greatest
unfolding number_said
said_low key rows n e = let b = bind_is (value_of key rows) _ n e in integer_low b.0 n b.2

-- the counters of a store of this version are within their limits
pub record AreWithin (version : StoreVersion) (r i s : ℕ) : Type 0 where
  pub revision : r ≤ greatest
  pub within : is_within version i ≡ true
  pub first_snapshot : 1 ≤ s
  pub next_snapshot : s ≤ greatest

pub counters_within : (version : StoreVersion) (rows : List Row) (c : Counters) → counters_said version rows ≡ Some c
    → AreWithin version c.revision c.next_instance c.next_snapshot
unfolding counters_said
counters_within version rows c e =
    let a = bind_is (number_said (codes "revision") rows) _ c e in
    let b = bind_is (number_said (codes "next_instance") rows) _ c a.2 in
    let d = bind_is (number_said (codes "next_snapshot") rows) _ c b.2 in
    let g = passes _ _ c d.2 in
    let one = parts _ (is_within version b.0) g.0 in
    let two = parts _ _ one.0 in
    subst (λ (x : Counters). AreWithin version x.revision x.next_instance x.next_snapshot) g.1
    (record {
      revision = said_low (codes "revision") rows a.0 a.1;
      within = one.1;
      first_snapshot = leb-true 1 d.0 two.1;
      next_snapshot = said_low (codes "next_snapshot") rows d.0 d.1;
    })

-- ---- names

named_by : (a b : Bool) (text found name : List ℕ) → pointwise nat_eq found text ≡ a → is_some (instance_of found) ≡ b
    → cond a (cond b None (Some found)) None ≡ Some name → name_of_text text ≡ Ok found → IsServiceName name
named_by true true text found name e i h r = absurd (none_is name h)
named_by true false text found name e i h r =
    let is : found ≡ name = some_is found name h in
    let same : found ≡ text = (same_text found text).0 e in
    subst IsServiceName is (record { reads = ap name_of_text same ∙ r; names = i })
named_by false b text found name e i h r = absurd (none_is name h)

service_by : (text name : List ℕ) (r : Result (List ℕ) FmriFault) → name_of_text text ≡ r
    → short_by text r ≡ Some name → IsServiceName name
service_by text name (Ok found) e h = named_by _ _ text found name refl refl h e
service_by text name (Err fault) e h = absurd (none_is name h)

short_accepted : (text name : List ℕ) → short_service text ≡ Some name → IsServiceName name
unfolding short_service
short_accepted text name e = service_by text name (name_of_text text) refl e

pub service_accepted : (r : Row) (name : List ℕ) → service_said r ≡ Some name → IsServiceName name
unfolding service_said
service_accepted r name e = let b = bind_is (text_in (column r 1)) _ name e in short_accepted b.0 name b.2

joined_accepted : (service name whole : List ℕ) → joined_name service name ≡ Some whole → IsInstanceName whole
unfolding joined_name
joined_accepted service name whole e =
    let b = bind_is (read_short (service ++ 58 ∷ name)) _ whole e in
    let g = passes _ b.0 whole b.2 in
    subst IsInstanceName g.1 (short_is_name (service ++ 58 ∷ name) b.0 b.1).1

name_accepted : (r : Row) (name : List ℕ) → name_said r ≡ Some name → IsInstanceName name
unfolding name_said
name_accepted r name e =
    let b = bind_is (text_in (column r 2)) _ name e in
    let d = bind_is (text_in (column r 3)) _ name b.2 in
    joined_accepted b.0 d.0 name d.2

pub instance_accepted : (r : Row) (i : Instance) → instance_said r ≡ Some i → IsInstanceName i.name
unfolding instance_said
instance_accepted r i e =
    let a = bind_is (number_in (column r 0)) _ i e in
    let b = bind_is (name_said r) _ i a.2 in
    let c = bind_is (state_said r) _ i b.2 in
    let d = bind_is (optional_in (column r 5)) _ i c.2 in
    let f = bind_is (optional_in (column r 6)) _ i d.2 in
    subst (λ (x : Instance). IsInstanceName x.name) (some_is _ i f.2) (name_accepted r b.0 b.1)

pub launch_accepted : (r : Row) (l : Launch) → launch_said r ≡ Some l → IsLaunchHeld l
unfolding launch_said
launch_accepted r l e =
    let a = bind_is (text_in (column r 1)) _ l e in
    let b = bind_is (number_in (column r 2)) _ l a.2 in
    let c = bind_is (read_short a.0) _ l b.2 in
    let made : Launch = record { restarter = c.0; count = b.0 } in
    let held : IsLaunchHeld made =
    record { named = (short_is_name a.0 c.0 c.1).1; count = number_low (column r 2) b.0 b.1 } in
    subst IsLaunchHeld (some_is made l c.2) held

-- A group that is changed stays one that a body may hold.
use Rattle.std.proofs.Common.{◌≡◌, ℕ, ◌≤◌, nat_lt, not, List, [], ◌∷◌, ◌++◌, length, filter, Bool, true, false, cond, Option, Some, None, is_some, IfSome, Result, Ok, Err, refl, sym, ap, subst, arith, ltb-false}
use Rattle.std.specs.List.{AllByRecursion}
use Rattle.smf_fmri.specs.ByKey.{list_with_item, without}
use Rattle.smf_fmri.proofs.Places.{length_without}
use Rattle.smf_fmri.proofs.KeyOrder.{all_put, rises_put, rises_without}
use Rattle.smf_fmri.proofs.SameLists.{found_every}
use Rattle.smf_value.specs.declared.fault.GroupFault.{GroupFault}
use Rattle.smf_value.specs.declared.fault.GroupFault.TheVariants as faults
use Rattle.smf_value.specs.declared.fault.ValueFault.{ValueFault}
use Rattle.smf_value.specs.declared.kind.Kind.{Kind}
use Rattle.smf_value.specs.declared.value.Value.{Value}
use Rattle.smf_value.specs.Body.{IsWholeGroup, IsWholeProperty}
use Rattle.smf_value.specs.Edits.{◌>>=◌, add_value, kind_after_edit, property_or_full, del, del_value, group_result, present_less, property_added, property_less, property_set, put_property, read_values, set, values_of}
use Rattle.smf_value.specs.Groups.{AreOf, GroupRecord, PropertyRecord, by_property, property_of}
use Rattle.smf_value.specs.Names.{IsName}
use Rattle.smf_value.specs.ValueTexts.{read_value}
use Rattle.smf_value.specs.Values.{IsValue, is_value, kind_of}
use Rattle.smf_value.proofs.EditLoops.{agreed_of, filtered_of, filtered_short, pushed_of}
use Rattle.smf_value.proofs.OneValue.{kind_itself}
use Rattle.smf_world.proofs.FormedNames.{read_is_value}

-- ---- what did not fail

abbrev given : {A : Type 0} → A → Result A GroupFault
given x = Ok x

given_is : {A : Type 0} (x y : A) → given x ≡ given y → x ≡ y
given_is x y e = cc

step_ok : {A B : Type 0} (r : Result A GroupFault) (f : A → Result B GroupFault) (y : B) → (r >>= f) ≡ Ok y
    → (x : A) × (r ≡ Ok x) × (f x ≡ Ok y)
step_ok (Ok x) f y e = (x, refl, e)
step_ok (Err d) f y e = absurd cc

lifted_ok : (r : Result Value ValueFault) (v : Value) → group_result r ≡ Ok v → r ≡ Ok v
lifted_ok (Ok x) v e = let same : x ≡ v = given_is x v e in ap Ok same
lifted_ok (Err d) v e = absurd cc

-- ---- every item

pub every_filter : {X : Type 0} (P : X → Type 0) (test : X → Bool) (xs : List X) → AllByRecursion P xs
    → AllByRecursion P (filter test xs)
every_filter P test [] a = tt
every_filter P test (x ∷ xs) a = by (test x) (every_filter P test xs a.1)
  where
    by : (b : Bool) → AllByRecursion P (filter test xs)
        → AllByRecursion P (cond b (x ∷ filter test xs) (filter test xs))
    by true rest = (a.0, rest)
    by false rest = rest

every_pushed : {X : Type 0} (P : X → Type 0) (xs : List X) (x : X) → AllByRecursion P xs → P x
    → AllByRecursion P (xs ++ x ∷ [])
every_pushed P [] x a p = (p, tt)
every_pushed P (y ∷ ys) x a p = (a.0, every_pushed P ys x a.1 p)

-- ---- a property put in its place

-- it keeps its name, and stays what a body may hold
abbrev pub IsKeptGroup : GroupRecord → GroupRecord → Type 0
IsKeptGroup g k = IsWholeGroup k × (k.name ≡ g.name)

with_properties : (g : GroupRecord) (ps : List PropertyRecord) (p : PropertyRecord) → IsWholeGroup g
    → IsWholeProperty p → ps ≡ list_with_item by_property p g.properties → nat_lt 1000 (length ps) ≡ false
    → IsKeptGroup g (record g { properties = ps })
with_properties g ps p whole is e t =
    let P : List PropertyRecord → Type 0 = λ qs. length qs ≤ 1000 → IsKeptGroup g (record g { properties = qs }) in
    subst P (sym e)
    (λ low. (
      record {
        named = whole.named;
        typed = whole.typed;
        formed = record { rises = rises_put by_property p g.properties whole.formed.rises; bounded = low };
        each = all_put by_property IsWholeProperty p g.properties is whole.each;
      },
      refl,
    ))
    (ltb-false 1000 (length ps) t)

pub put_whole : (p : PropertyRecord) (g k : GroupRecord) → IsWholeProperty p → IsWholeGroup g
    → put_property p g ≡ Ok k → IsKeptGroup g k
unfolding put_property
put_whole p g k is whole e = by (nat_lt 1000 (length ps)) refl e
  where
    ps : List PropertyRecord
    ps = list_with_item by_property p g.properties

    by : (b : Bool) → nat_lt 1000 (length ps) ≡ b
        → cond b (Err faults.Full) (given (record g { properties = ps })) ≡ Ok k → IsKeptGroup g k
    by true t h = absurd cc
    by false t h =
        subst (IsKeptGroup g) (given_is (record g { properties = ps }) k h) (with_properties g ps p whole is refl t)

-- ---- values

abbrev AreValues : Kind → List Value → Type 0
AreValues kind vs = AllByRecursion IsValue vs × AreOf kind vs

one_more : (kind : Kind) (v : Value) (vs : List Value) → kind_of v ≡ kind → AreOf kind vs → AreOf kind (v ∷ vs)
one_more kind v vs e h = rw (e, kind_itself kind, h) refl

values_read : (kind : Kind) (texts : List (List ℕ)) (vs : List Value) → read_values kind texts ≡ Ok vs
    → AreValues kind vs
values_read kind [] vs e = subst (AreValues kind) (given_is [] vs e) (tt, refl)
values_read kind (text ∷ texts) vs e =
    let a = step_ok (group_result (read_value kind text)) (λ v. read_values kind texts >>= λ ws. Ok (v ∷ ws)) vs e in
    let b = step_ok (read_values kind texts) (λ ws. Ok (a.0 ∷ ws)) vs a.2 in
    let is = read_is_value kind text a.0 (lifted_ok (read_value kind text) a.0 a.1) in
    let others = values_read kind texts b.0 b.1 in
    subst (AreValues kind) (given_is (a.0 ∷ b.0) vs b.2) ((is.1, others.0), one_more kind a.0 b.0 is.0 others.1)

bounded_ok : (p q : PropertyRecord) → IsName p.name → AreValues p.kind p.values → property_or_full p ≡ Ok q
    → IsWholeProperty q
bounded_ok p q named are e = by (nat_lt 1000 (length p.values)) refl e
  where
    by : (b : Bool) → nat_lt 1000 (length p.values) ≡ b → cond b (Err faults.Full) (given p) ≡ Ok q → IsWholeProperty q
    by true t h = absurd cc
    by false t h =
        subst IsWholeProperty (given_is p q h)
        (record {
          named = named;
          formed = record { kinds = are.1; bounded = ltb-false 1000 (length p.values) t };
          each = are.0;
        })

-- a property that is there is whole
abbrev AreWhole : Option PropertyRecord → Type 0
AreWhole o = IfSome o IsWholeProperty

there : (name : List ℕ) (g : GroupRecord) → IsWholeGroup g → AreWhole (property_of name g)
there name g whole = by (property_of name g) refl
  where
    by : (o : Option PropertyRecord) → property_of name g ≡ o → AreWhole o
    by None e = tt
    by (Some p) e = found_every by_property IsWholeProperty name g.properties p whole.each e

values_there : (o : Option PropertyRecord) → AreWhole o → AllByRecursion IsValue (values_of o)
values_there None a = tt
values_there (Some p) a = a.each

kinds_there : (o : Option PropertyRecord) → AreWhole o → IfSome o (λ p. AreOf p.kind p.values)
kinds_there None a = tt
kinds_there (Some p) a = a.formed.kinds

-- ---- the changes

property_set_whole : (name : List ℕ) (kind : Option Kind) (texts : List (List ℕ)) (o : Option PropertyRecord)
    (p : PropertyRecord) → IsName name → property_set name kind texts o ≡ Ok p → IsWholeProperty p
unfolding property_set
property_set_whole name kind texts o p named e =
    let a = step_ok (kind_after_edit kind o)
    (λ k. read_values k texts >>= λ vs. property_or_full (record { name = name; kind = k; values = vs })) p e in
    let b = step_ok (read_values a.0 texts) (λ vs. property_or_full (record { name = name; kind = a.0; values = vs }))
    p a.2 in
    bounded_ok (record { name = name; kind = a.0; values = b.0 }) p named (values_read a.0 texts b.0 b.1) b.2

pub set_whole : (name : List ℕ) (kind : Option Kind) (texts : List (List ℕ)) (g k : GroupRecord) → IsName name
    → IsWholeGroup g → set name kind texts g ≡ Ok k → IsKeptGroup g k
unfolding set
set_whole name kind texts g k named whole e =
    let a = step_ok (property_set name kind texts (property_of name g)) (λ p. put_property p g) k e in
    put_whole a.0 g k (property_set_whole name kind texts (property_of name g) a.0 named a.1) whole a.2

property_added_whole : (name : List ℕ) (kind : Option Kind) (text : List ℕ) (o : Option PropertyRecord)
    (p : PropertyRecord) → IsName name → AreWhole o → property_added name kind text o ≡ Ok p → IsWholeProperty p
unfolding property_added
property_added_whole name kind text o p named is e =
    let a = step_ok (kind_after_edit kind o)
    (λ k. group_result (read_value k text) >>= λ v. property_or_full
    (record { name = name; kind = k; values = values_of o ++ v ∷ [] })) p e in
    let b = step_ok (group_result (read_value a.0 text))
    (λ v. property_or_full (record { name = name; kind = a.0; values = values_of o ++ v ∷ [] })) p a.2 in
    let v = read_is_value a.0 text b.0 (lifted_ok (read_value a.0 text) b.0 b.1) in
    let of : AreOf a.0 (values_of o) = agreed_of kind o a.0 a.1 (kinds_there o is) in
    bounded_ok (record { name = name; kind = a.0; values = values_of o ++ b.0 ∷ [] }) p named
    (every_pushed IsValue (values_of o) b.0 (values_there o is) v.1, pushed_of a.0 (values_of o) b.0 of v.0) b.2

pub add_whole : (name : List ℕ) (kind : Option Kind) (text : List ℕ) (g k : GroupRecord) → IsName name
    → IsWholeGroup g → add_value name kind text g ≡ Ok k → IsKeptGroup g k
unfolding add_value
add_whole name kind text g k named whole e =
    let a = step_ok (property_added name kind text (property_of name g)) (λ p. put_property p g) k e in
    put_whole a.0 g k (property_added_whole name kind text (property_of name g) a.0 named (there name g whole) a.1)
    whole a.2

property_less_whole : (text : List ℕ) (p q : PropertyRecord) → IsWholeProperty p → property_less text p ≡ Ok q
    → IsWholeProperty q
unfolding property_less
property_less_whole text p q whole e =
    let a = step_ok (group_result (read_value p.kind text))
    (λ v. Ok (record p { values = filter (λ w. not (is_value w v)) p.values })) q e in
    let test : Value → Bool = λ w. not (is_value w a.0) in
    let short : length (filter test p.values) ≤ length p.values = filtered_short test p.values in
    let low : length p.values ≤ 1000 = whole.formed.bounded in
    subst IsWholeProperty (given_is (record p { values = filter test p.values }) q a.2)
    (record {
      named = whole.named;
      formed = record { kinds = filtered_of p.kind test p.values whole.formed.kinds; bounded = omega arith };
      each = every_filter IsValue test p.values whole.each;
    })

present_less_whole : (text : List ℕ) (o : Option PropertyRecord) (q : PropertyRecord) → AreWhole o
    → present_less text o ≡ Ok q → IsWholeProperty q
present_less_whole text None q is e = absurd cc
present_less_whole text (Some p) q is e = property_less_whole text p q is e

pub less_whole : (name text : List ℕ) (g k : GroupRecord) → IsWholeGroup g → del_value name text g ≡ Ok k
    → IsKeptGroup g k
unfolding del_value
less_whole name text g k whole e =
    let a = step_ok (present_less text (property_of name g)) (λ p. put_property p g) k e in
    put_whole a.0 g k (present_less_whole text (property_of name g) a.0 (there name g whole) a.1) whole a.2

pub del_whole : (name : List ℕ) (g k : GroupRecord) → IsWholeGroup g → del name g ≡ Ok k → IsKeptGroup g k
unfolding del
del_whole name g k whole e = by (is_some (property_of name g)) e
  where
    ps : List PropertyRecord
    ps = without by_property name g.properties

    short : length ps ≤ 1000
    short = let a : length ps ≤ length g.properties = length_without by_property name g.properties in
        let low : length g.properties ≤ 1000 = whole.formed.bounded in omega arith

    by : (b : Bool) → cond b (given (record g { properties = ps })) (Err faults.NoSuch) ≡ Ok k → IsKeptGroup g k
    by false h = absurd cc
    by true h =
        subst (IsKeptGroup g) (given_is (record g { properties = ps }) k h) (
          record {
            named = whole.named;
            typed = whole.typed;
            formed = record { rises = rises_without by_property name g.properties whole.formed.rises; bounded = short };
            each = every_filter IsWholeProperty _ g.properties whole.each;
          },
          refl,
        )

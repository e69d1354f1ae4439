-- Edits of a group change one property.
use Rattle.std.proofs.Common.{◌≡◌, ℕ, ◌≤◌, List, [], ◌∷◌, ◌++◌, length, filter, Bool, true, false, cond, not, Option, Some, None, is_some, Result, Ok, Err, refl, sym, ap, ◌∙◌, subst, nat_lt, ◌==◌, eqb-true, eq-eqb}
use Rattle.std.specs.List.{AllZip}
use Rattle.std.specs.Ordering.{is_eq}
use Rattle.std.proofs.lemmas.Bool.{and_parts, ltb-false}
use Rattle.std.proofs.lemmas.Bool.Decides.{Decides-int_eq}
use Rattle.smf_fmri.specs.ByKey.{lookup, list_with_item, without}
use Rattle.smf_fmri.proofs.Lookups.{equal_from_test, lookup_put, lookup_without, with_answer_here, with_answer_other}
use Rattle.smf_fmri.proofs.Patterns.{same_text}
use Rattle.smf_fmri.proofs.SameLists.{found_key}
use Rattle.smf_value.specs.declared.fault.GroupFault.{GroupFault}
use Rattle.smf_value.specs.declared.fault.GroupFault.TheVariants.{NoSuch, KindDiffers, Full}
use Rattle.smf_value.specs.declared.fault.ValueFault.{ValueFault}
use Rattle.smf_value.specs.declared.kind.Kind.{Kind}
use Rattle.smf_value.specs.declared.value.Value.{Value}
use Rattle.smf_value.specs.declared.value.Value.TheVariants.{Boolean, Count, Integer, Time, Astring, Ustring, Fmri}
use Rattle.smf_value.specs.Edits.{◌>>=◌, add_value, kind_after_edit, property_or_full, del, del_value, group_result, present_less, property_added, property_less, property_set, put_property, read_values, set, values_of}
use Rattle.smf_value.specs.Groups.{GroupRecord, PropertyRecord, by_property, property_of}
use Rattle.smf_value.specs.Kinds.{is_kind}
use Rattle.smf_value.specs.Moments.{Moment}
use Rattle.smf_value.specs.ValueTexts.{read_value}
use Rattle.smf_value.specs.Values.{is_value}
use Rattle.smf_value.proofs.OneValue.{kind_same}
use Rattle.smf_value.proofs.ValueReads.{value_read}
use Rattle.smf_meaning.specs.Edited.{AreBut, Gone, HasKind, IsAdded, IsDeleted, IsLess, IsRead, IsSet, Kept, LeavesOthers, Nothing, values_before}

-- ---- one after another

bind_ok : {A B : Type 0} (r : Result A GroupFault) (f : A → Result B GroupFault) (y : B) → (r >>= f) ≡ Ok y
    → (x : A) × (r ≡ Ok x) × (f x ≡ Ok y)
bind_ok (Ok x) f y e = (x, refl, e)
bind_ok (Err fault) f y e = absurd cc

ok_is : {A : Type 0} (x y : A) → ◌≡◌ {A = Result A GroupFault} (Ok x) (Ok y) → x ≡ y
ok_is x y e = cc

guarded : {A : Type 0} (b : Bool) (fault : GroupFault) (x y : A)
    → ◌≡◌ {A = Result A GroupFault} (cond b (Err fault) (Ok x)) (Ok y) → (b ≡ false) × (x ≡ y)
guarded true fault x y e = absurd cc
guarded false fault x y e = (refl, ok_is x y e)

-- ---- kinds and values

agreed_kind : (asked : Option Kind) (found : Option PropertyRecord) (k : Kind) → kind_after_edit asked found ≡ Ok k
    → HasKind asked found k
agreed_kind None None k e = absurd cc
agreed_kind (Some a) None k e = record { as_asked = λ b h. cc; as_before = λ p h. absurd cc }
agreed_kind None (Some p) k e =
    record {
      as_asked = λ b h. absurd cc;
      as_before = λ q h. let same : p.kind ≡ k = cc in let is : p ≡ q = cc in
          sym same ∙ ap (λ (r : PropertyRecord). r.kind) is;
    }
agreed_kind (Some a) (Some p) k e = by (is_kind a p.kind) refl e
  where
    by : (b : Bool) → is_kind a p.kind ≡ b → ◌≡◌ {A = Result Kind GroupFault} (cond b (Ok a) (Err KindDiffers)) (Ok k)
        → HasKind (Some a) (Some p) k
    by true t h =
        let same : a ≡ k = cc in
        record {
          as_asked = λ b i. let is : a ≡ b = cc in sym same ∙ is;
          as_before = λ q i. let is : p ≡ q = cc in
              sym same ∙ kind_same a p.kind t ∙ ap (λ (r : PropertyRecord). r.kind) is;
        }
    by false t h = absurd cc

lifted_ok : (r : Result Value ValueFault) (v : Value) → group_result r ≡ Ok v → r ≡ Ok v
lifted_ok (Ok w) v e = let same : w ≡ v = cc in ap Ok same
lifted_ok (Err fault) v e = absurd cc

read_one : (kind : Kind) (text : List ℕ) (v : Value) → group_result (read_value kind text) ≡ Ok v → IsRead kind text v
read_one kind text v e = value_read kind text v (lifted_ok (read_value kind text) v e)

read_all : (kind : Kind) (texts : List (List ℕ)) (vs : List Value) → read_values kind texts ≡ Ok vs
    → AllZip (IsRead kind) texts vs
read_all kind [] vs e = subst (AllZip (IsRead kind) []) (ok_is [] vs e) tt
read_all kind (text ∷ texts) vs e =
    let a = bind_ok (group_result (read_value kind text)) _ vs e in
    let b = bind_ok (read_values kind texts) _ vs a.2 in
    subst (AllZip (IsRead kind) (text ∷ texts)) (ok_is (a.0 ∷ b.0) vs b.2)
    (read_one kind text a.0 a.1, read_all kind texts b.0 b.1)

-- ---- a property put in its place

record IsPut (p : PropertyRecord) (g after : GroupRecord) : Type 0 where
  is_there : property_of p.name after ≡ Some p
  rest : LeavesOthers p.name g after

apart : (name other : List ℕ) → (other ≡ name → ⊥) → is_eq (by_property.cmp name other) ≡ false
apart name other differs = by (is_eq (by_property.cmp name other)) refl
  where
    by : (b : Bool) → is_eq (by_property.cmp name other) ≡ b → b ≡ false
    by true e = absurd (differs (sym (by_property.exact name other (equal_from_test (by_property.cmp name other) e))))
    by false e = refl

put_in : (p : PropertyRecord) (g after : GroupRecord) → put_property p g ≡ Ok after → IsPut p g after
unfolding put_property
put_in p g after e =
    let made : GroupRecord = record g { properties = list_with_item by_property p g.properties } in
    let ok = guarded (nat_lt 1000 (length (list_with_item by_property p g.properties))) Full made after e in
    let found : IsPut p g made = record {
      is_there = lookup_put by_property p g.properties p.name
          ∙ with_answer_here by_property (lookup by_property g.properties) p.name (Some p);
      rest = record {
        others = λ other differs. lookup_put by_property p g.properties other
            ∙ with_answer_other by_property (lookup by_property g.properties) p.name (Some p) other
            (apart p.name other differs);
        named = refl;
        typed = refl;
        flagged = refl;
      };
    } in
    subst (IsPut p g) ok.1 found

fits : (p q : PropertyRecord) → property_or_full p ≡ Ok q → (p ≡ q) × (length q.values ≤ 1000)
fits p q e =
    let ok = guarded (nat_lt 1000 (length p.values)) Full p q e in
    (ok.1, subst (λ (r : PropertyRecord). length r.values ≤ 1000) ok.1 (ltb-false 1000 (length p.values) ok.0))

-- ---- set

record IsPropertySet (name : List ℕ) (asked : Option Kind) (texts : List (List ℕ)) (found : Option PropertyRecord)
    (p : PropertyRecord) : Type 0 where
  named : p.name ≡ name
  kind : HasKind asked found p.kind
  values : AllZip (IsRead p.kind) texts p.values
  low : length p.values ≤ 1000

property_is_set : (name : List ℕ) (asked : Option Kind) (texts : List (List ℕ)) (found : Option PropertyRecord)
    (p : PropertyRecord)
    → property_set name asked texts found ≡ Ok p → IsPropertySet name asked texts found p
unfolding property_set
property_is_set name asked texts found p e =
    let k = bind_ok (kind_after_edit asked found) _ p e in
    let vs = bind_ok (read_values k.0 texts) _ p k.2 in
    let made : PropertyRecord = record { name = name; kind = k.0; values = vs.0 } in
    let b = fits made p vs.2 in
    let found_values = read_all k.0 texts vs.0 vs.1 in
    let P : PropertyRecord → Type 0 = λ q. length q.values ≤ 1000 → IsPropertySet name asked texts found q in
    subst P b.0 (λ low. record {
      named = refl;
      kind = agreed_kind asked found k.0 k.1;
      values = found_values;
      low = low;
    }) b.1

pub is_set : (name : List ℕ) (asked : Option Kind) (texts : List (List ℕ)) (g after : GroupRecord)
    → set name asked texts g ≡ Ok after → IsSet name asked texts g after
unfolding set
is_set name asked texts g after e =
    let p = bind_ok (property_set name asked texts (property_of name g)) _ after e in
    let s = property_is_set name asked texts (property_of name g) p.0 p.1 in
    let there = put_in p.0 g after p.2 in
    record {
      stated = p.0;
      is_there = ap (λ n. property_of n after) (sym s.named) ∙ there.is_there;
      named = s.named;
      kind = s.kind;
      values = s.values;
      bounded = s.low;
      rest = subst (λ n. LeavesOthers n g after) s.named there.rest;
    }

-- ---- a value more

record IsPropertyAdded (name : List ℕ) (asked : Option Kind) (text : List ℕ) (found : Option PropertyRecord)
    (p : PropertyRecord) : Type 0 where
  value : Value
  named : p.name ≡ name
  kind : HasKind asked found p.kind
  read : IsRead p.kind text value
  values : p.values ≡ values_before found ++ value ∷ []
  low : length p.values ≤ 1000

before_are : (found : Option PropertyRecord) → values_of found ≡ values_before found
before_are None = refl
before_are (Some p) = refl

property_is_added : (name : List ℕ) (asked : Option Kind) (text : List ℕ) (found : Option PropertyRecord)
    (p : PropertyRecord)
    → property_added name asked text found ≡ Ok p → IsPropertyAdded name asked text found p
unfolding property_added
property_is_added name asked text found p e =
    let k = bind_ok (kind_after_edit asked found) _ p e in
    let v = bind_ok (group_result (read_value k.0 text)) _ p k.2 in
    let made : PropertyRecord = record { name = name; kind = k.0; values = values_of found ++ v.0 ∷ [] } in
    let b = fits made p v.2 in
    let read = read_one k.0 text v.0 v.1 in
    let P : PropertyRecord → Type 0 = λ q. length q.values ≤ 1000 → IsPropertyAdded name asked text found q in
    subst P b.0
    (λ low. record {
      value = v.0;
      named = refl;
      kind = agreed_kind asked found k.0 k.1;
      read = read;
      values = ap (λ (l : List Value). l ++ v.0 ∷ []) (before_are found);
      low = low;
    })
    b.1

pub is_added : (name : List ℕ) (asked : Option Kind) (text : List ℕ) (g after : GroupRecord)
    → add_value name asked text g ≡ Ok after → IsAdded name asked text g after
unfolding add_value
is_added name asked text g after e =
    let p = bind_ok (property_added name asked text (property_of name g)) _ after e in
    let s = property_is_added name asked text (property_of name g) p.0 p.1 in
    let there = put_in p.0 g after p.2 in
    record {
      stated = p.0;
      value = s.value;
      is_there = ap (λ n. property_of n after) (sym s.named) ∙ there.is_there;
      named = s.named;
      kind = s.kind;
      read = s.read;
      values = s.values;
      bounded = s.low;
      rest = subst (λ n. LeavesOthers n g after) s.named there.rest;
    }

-- ---- a value less

moments : (s t : Moment) → (s.seconds == t.seconds) ≡ true → (s.nanoseconds == t.nanoseconds) ≡ true → s ≡ t
moments s t a b =
    let x : s.seconds ≡ t.seconds = eqb-true s.seconds t.seconds a in
    let y : s.nanoseconds ≡ t.nanoseconds = eqb-true s.nanoseconds t.nanoseconds b in
    λ i. record { seconds = x i; nanoseconds = y i }

-- values that are told to be one are one
one_value : (w v : Value) → is_value w v ≡ true → w ≡ v
one_value (Boolean true) (Boolean true) e = refl
one_value (Boolean true) (Boolean false) e = absurd cc
one_value (Boolean false) (Boolean true) e = absurd cc
one_value (Boolean false) (Boolean false) e = refl
one_value (Boolean true) (Count n) e = absurd cc
one_value (Boolean false) (Count n) e = absurd cc
one_value (Count m) (Count n) e = ap Count (eqb-true m n e)
one_value (Integer y) (Integer z) e = ap Integer ((Decides-int_eq y z).0 e)
one_value (Time s) (Time t) e =
    let parts = and_parts (s.seconds == t.seconds) (s.nanoseconds == t.nanoseconds) e in
    ap Time (moments s t parts.0 parts.1)
one_value (Astring a) (Astring b) e = ap Astring ((same_text a b).0 e)
one_value (Ustring a) (Ustring b) e = ap Ustring ((same_text a b).0 e)
one_value (Fmri a) (Fmri b) e = ap Fmri ((same_text a b).0 e)
one_value w v e = absurd cc

itself : (v : Value) → is_value v v ≡ true
itself (Boolean true) = refl
itself (Boolean false) = refl
itself (Count n) = eq-eqb n n refl
itself (Integer z) = (Decides-int_eq z z).1 refl
itself (Time t) = let a = eq-eqb t.seconds t.seconds refl in let b = eq-eqb t.nanoseconds t.nanoseconds refl in
    rw (a, b) refl
itself (Astring a) = (same_text a a).1 refl
itself (Ustring a) = (same_text a a).1 refl
itself (Fmri a) = (same_text a a).1 refl

are_but : (v : Value) (ws : List Value) → AreBut v ws (filter (λ w. not (is_value w v)) ws)
are_but v [] = Nothing
are_but v (w ∷ ws) = by (is_value w v) refl (are_but v ws)
  where
    rest : List Value
    rest = filter (λ x. not (is_value x v)) ws

    by : (b : Bool) → is_value w v ≡ b → AreBut v ws rest → AreBut v (w ∷ ws) (cond (not b) (w ∷ rest) rest)
    by true e more = Gone (one_value w v e) more
    by false e more =
        Kept (λ same. let t : is_value w v ≡ true = subst (λ x. is_value x v ≡ true) (sym same) (itself v) in cc) more

record IsPropertyLess (text : List ℕ) (old p : PropertyRecord) : Type 0 where
  value : Value
  named : p.name ≡ old.name
  kind : p.kind ≡ old.kind
  read : IsRead old.kind text value
  values : AreBut value old.values p.values

property_is_less : (text : List ℕ) (old p : PropertyRecord) → property_less text old ≡ Ok p → IsPropertyLess text old p
unfolding property_less
property_is_less text old p e =
    let v = bind_ok (group_result (read_value old.kind text)) _ p e in
    let made : PropertyRecord = record old { values = filter (λ w. not (is_value w v.0)) old.values } in
    let found : IsPropertyLess text old made = record {
      value = v.0;
      named = refl;
      kind = refl;
      read = read_one old.kind text v.0 v.1;
      values = are_but v.0 old.values;
    } in
    subst (IsPropertyLess text old) (ok_is made p v.2) found

less_by : (o : Option PropertyRecord) (name text : List ℕ) (g after : GroupRecord) → property_of name g ≡ o
    → (present_less text o >>= (λ p. put_property p g)) ≡ Ok after → IsLess name text g after
less_by None name text g after there e = absurd cc
less_by (Some old) name text g after there e =
    let p = bind_ok (property_less text old) _ after e in
    let s = property_is_less text old p.0 p.1 in
    let put_there = put_in p.0 g after p.2 in
    let named : p.0.name ≡ name = s.named ∙ found_key by_property name g.properties old there in
    record {
      old = old;
      was_there = there;
      stated = p.0;
      value = s.value;
      is_there = ap (λ n. property_of n after) (sym named) ∙ put_there.is_there;
      named = named;
      kind = s.kind;
      read = s.read;
      values = s.values;
      rest = subst (λ n. LeavesOthers n g after) named put_there.rest;
    }

pub is_less : (name text : List ℕ) (g after : GroupRecord) → del_value name text g ≡ Ok after → IsLess name text g after
unfolding del_value
is_less name text g after e = less_by (property_of name g) name text g after refl e

-- ---- a property less

deleted_by : (o : Option PropertyRecord) (name : List ℕ) (g after : GroupRecord) → property_of name g ≡ o
    → cond (is_some o) (Ok (record g { properties = without by_property name g.properties })) (Err NoSuch) ≡ Ok after
    → IsDeleted name g after
deleted_by None name g after there e = absurd cc
deleted_by (Some old) name g after there e =
    let made : GroupRecord = record g { properties = without by_property name g.properties } in
    let found : IsDeleted name g made = record {
      old = old;
      was_there = there;
      is_gone = lookup_without by_property name g.properties name
          ∙ with_answer_here by_property (lookup by_property g.properties) name None;
      rest = record {
        others = λ other differs. lookup_without by_property name g.properties other
            ∙ with_answer_other by_property (lookup by_property g.properties) name None other
            (apart name other differs);
        named = refl;
        typed = refl;
        flagged = refl;
      };
    } in
    subst (IsDeleted name g) (ok_is made after e) found

pub is_deleted : (name : List ℕ) (g after : GroupRecord) → del name g ≡ Ok after → IsDeleted name g after
unfolding del
is_deleted name g after e = deleted_by (property_of name g) name g after refl e

-- Properties that are put into a group and taken out of it, at most 1,000 in all.
use Rattle.std.proofs.Common.{◌≡◌, ℕ, ◌+◌, ◌≤◌, ◌<◌, List, length, Bool, true, false, not, Bor, Option, Some, None, Ok, Err, is_some, nat_lt, refl, sym, ap, ◌∙◌, arith, le-ltb, lt-ltb}
use Rattle.std.specs.Option.{option_copied}
use Rattle.smf_fmri.specs.ByKey.{Rises, lookup, list_with_item, without}
use Rattle.smf_fmri.proofs.Places.{length_put_new, length_put_over}
use Rattle.smf_fmri.proofs.KeyOrder.{length_put}
use Rattle.smf_value.specs.declared.fault.GroupFault.TheVariants.{NoSuch, Full}
use Rattle.smf_value.specs.Groups.{PropertyRecord, GroupRecord, by_property, property_of}
use Rattle.smf_value.specs.Edits.{put_property, del}

-- a property was found exactly if a call on the answer says so
pub is_found : {X : Type 0} (r : Option (Bor X)) (found : Option X) (none v : Bool) → option_copied r ≡ found
    → is_some r ≡ not none → none ≡ v → is_some found ≡ not v
is_found None found none v e h t = ap is_some (sym e) ∙ h ∙ ap not t
is_found (Some x) found none v e h t = ap is_some (sym e) ∙ h ∙ ap not t

-- past the limit: only if there is no such property yet
pub over_by : (p : PropertyRecord) (ps : List PropertyRecord) (found : Option PropertyRecord) (none : Bool)
    → lookup by_property ps p.name ≡ found → is_some found ≡ not none → Rises by_property ps → length ps ≡ 1000
    → none ≡ nat_lt 1000 (length (list_with_item by_property p ps))
over_by p ps None true e h rises long =
    let n : length (list_with_item by_property p ps) ≡ length ps + 1 = length_put_new by_property p ps e in
    sym (lt-ltb 1000 (length (list_with_item by_property p ps)) (omega arith))
over_by p ps None false e h rises long = cc
over_by p ps (Some q) true e h rises long = cc
over_by p ps (Some q) false e h rises long =
    let n : length (list_with_item by_property p ps) ≡ length ps = length_put_over by_property p q ps rises e in
    sym (le-ltb 1000 (length (list_with_item by_property p ps)) (omega arith))

pub room : (p : PropertyRecord) (ps : List PropertyRecord) → length ps < 1000
    → false ≡ nat_lt 1000 (length (list_with_item by_property p ps))
room p ps low =
    let n : length (list_with_item by_property p ps) ≤ length ps + 1 = (length_put by_property p ps).1 in
    sym (le-ltb 1000 (length (list_with_item by_property p ps)) (omega arith))

pub put_full : (p : PropertyRecord) (g : GroupRecord)
    → nat_lt 1000 (length (list_with_item by_property p g.properties)) ≡ true
    → put_property p g ≡ Err Full
unfolding put_property
put_full p g h = rw h refl

pub put_fits : (p : PropertyRecord) (g : GroupRecord)
    → nat_lt 1000 (length (list_with_item by_property p g.properties)) ≡ false
    → put_property p g ≡ Ok (record g { properties = list_with_item by_property p g.properties })
unfolding put_property
put_fits p g h = rw h refl

pub del_absent : (name : List ℕ) (g : GroupRecord) → is_some (property_of name g) ≡ false → del name g ≡ Err NoSuch
unfolding del
del_absent name g h = rw h refl

pub del_present : (name : List ℕ) (g : GroupRecord) → is_some (property_of name g) ≡ true
    → del name g ≡ Ok (record g { properties = without by_property name g.properties })
unfolding del
del_present name g h = rw h refl

-- The group `restarter` of an instance, property by property.
use Rattle.std.proofs.Common.{◌≡◌, ℕ, List, [], ◌∷◌, codes, true, Result, Ok, refl}
use Rattle.smf_state.specs.declared.row.Row.{Row}
use Rattle.smf_state.specs.States.{state_text}
use Rattle.smf_value.specs.declared.fault.GroupFault.{GroupFault}
use Rattle.smf_value.specs.Groups.{PropertyRecord, GroupRecord}
use Rattle.smf_value.specs.Edits.{put_property}
use Rattle.smf_model.specs.GeneralGroup.{restarter_name, framework}
use Rattle.smf_model.specs.Shown.{text_property, next_text, made_group}

abbrev with_properties : List PropertyRecord → GroupRecord
with_properties ps = record { name = restarter_name; group_type = framework; non_persistent = true; properties = ps }

abbrev done : GroupRecord → Result GroupRecord GroupFault
done g = Ok g

first : (t : List ℕ) → put_property (text_property (codes "next_state") t) (with_properties [])
    ≡ done (with_properties (text_property (codes "next_state") t ∷ []))
unfolding put_property
first t = refl

second : (t u : List ℕ)
    → put_property (text_property (codes "state") u) (with_properties (text_property (codes "next_state") t ∷ []))
    ≡ done (with_properties (text_property (codes "next_state") t ∷ text_property (codes "state") u ∷ []))
unfolding put_property
second t u = refl

pub made : (next state : PropertyRecord) (g0 g1 g2 : GroupRecord) (r : Row)
    → next ≡ text_property (codes "next_state") (next_text r.next)
    → state ≡ text_property (codes "state") (state_text r.state) → g0 ≡ with_properties []
    → put_property next g0 ≡ done g1 → put_property state g1 ≡ done g2
    → g2 ≡ made_group r
made next state g0 g1 g2 r a b c e f =
    let here : put_property next g0
    ≡ done (with_properties (text_property (codes "next_state") (next_text r.next) ∷ [])) =
    rw (a, c) (first (next_text r.next)) in
    let one : g1 ≡ with_properties (text_property (codes "next_state") (next_text r.next) ∷ []) = cc in
    let there : put_property state g1 ≡ done (made_group r) =
    rw (b, one) (second (next_text r.next) (state_text r.state)) in
    cc

-- The meaning of an instance's group `general`: whether the instance is enabled, and which restarter runs it.
use Rattle.std.specs.Prelude.{ℕ, ◌==◌, List, [], ◌∷◌, ◌++◌, length, Bool, true, false}
use Rattle.std.specs.Prelude.{if◌then◌else◌, codes, Option, Some, None, is_some, Result, Ok, Err}
use Rattle.smf_fmri.specs.declared.fault.FmriFault.{FmriFault}
use Rattle.smf_fmri.specs.Name.{short, name_of_text}
use Rattle.smf_fmri.specs.Patterns.{service_of, instance_of}
use Rattle.smf_state.specs.OwnName.{startd}
use Rattle.smf_value.specs.declared.value.Value.{Value}
use Rattle.smf_value.specs.declared.value.Value.TheVariants.{Boolean, Astring, Fmri}
use Rattle.smf_value.specs.Groups.{PropertyRecord, GroupRecord, property_of}
use Rattle.smf_model.specs.declared.held.Instance.{Instance}
use Rattle.smf_model.specs.declared.held.Owner.{Owner}
use Rattle.smf_model.specs.declared.held.Owner.TheVariants as owners
use Rattle.smf_model.specs.declared.general_group.Setting.{Setting}
use Rattle.smf_model.specs.declared.general_group.Setting.TheVariants.{Unset, Restarter, Unreadable}
use Rattle.smf_model.specs.Look.{group_in}

abbrev pub general : List ℕ
general = codes "general"

abbrev pub general_ovr : List ℕ
general_ovr = codes "general_ovr"

abbrev pub enabled_name : List ℕ
enabled_name = codes "enabled"

abbrev pub restarter_name : List ℕ
restarter_name = codes "restarter"

abbrev pub framework : List ℕ
framework = codes "framework"

-- the name of an instance's service
abbrev pub service_fmri : List ℕ → List ℕ
service_fmri name = short ++ service_of name

-- the groups of each owner, as a look-up
abbrev pub Groups : Type 0
Groups = Owner → List GroupRecord

abbrev pub property_in : Option GroupRecord → List ℕ → Option PropertyRecord
property_in None name = None
property_in (Some g) name = property_of name g

abbrev pub first_of : {X : Type 0} → Option X → Option X → Option X
first_of (Some x) other = Some x
first_of None other = other

-- a property of the group of an instance, else of that of its service
abbrev pub property_of_either : Option GroupRecord → Option GroupRecord → List ℕ → Option PropertyRecord
property_of_either own services_own name = first_of (property_in own name) (property_in services_own name)

abbrev pub service_owner : Instance → Owner
service_owner i = owners.Service (service_fmri i.name)

-- one boolean says so; anything else is false
abbrev pub truth_of : List Value → Bool
truth_of (Boolean b ∷ []) = b
truth_of _ = false

abbrev pub is_true : Option PropertyRecord → Bool
is_true None = false
is_true (Some p) = truth_of p.values

-- `is_instance_enabled` of `general_ovr` of an instance, else of its `general`, else of that of its service
abbrev pub enabled_property : Option GroupRecord → Option GroupRecord → Option GroupRecord → Option PropertyRecord
enabled_property ovr own services_own =
    first_of (property_in ovr enabled_name) (property_of_either own services_own enabled_name)

-- `general_ovr/enabled` of the instance if it is there, else `general/enabled`
unfoldable pub is_instance_enabled : Groups → Instance → Bool
is_instance_enabled gs i =
    let own = gs (owners.Instance i.number) in
    is_true
    (enabled_property (group_in own general_ovr) (group_in own general) (group_in (gs (service_owner i)) general))

abbrev pub named_restarter : Result (List ℕ) FmriFault → Setting
named_restarter (Ok name) = if is_some (instance_of name) then Restarter name else Unreadable
named_restarter (Err e) = Unreadable

-- one instance, by an FMRI or its text; no value or an empty text is as if nothing were set
abbrev pub setting_of : List Value → Setting
setting_of [] = Unset
setting_of (Fmri name ∷ []) = named_restarter (Ok name)
setting_of (Astring text ∷ []) = if length text == 0 then Unset else named_restarter (name_of_text text)
setting_of _ = Unreadable

abbrev pub set_by : Option PropertyRecord → Setting
set_by None = Unset
set_by (Some p) = setting_of p.values

-- the setting that the groups `general` of an instance and of its service give
abbrev pub setting_by : Option GroupRecord → Option GroupRecord → Setting
setting_by own services_own = set_by (property_of_either own services_own restarter_name)

-- the setting that `general/restarter` gives
unfoldable pub setting : Groups → Instance → Setting
setting gs i = setting_by (group_in (gs (owners.Instance i.number)) general) (group_in (gs (service_owner i)) general)

-- the restarter that a setting names, or svc.startd if it names none
abbrev pub owner_by : Setting → List ℕ
owner_by (Restarter name) = name
owner_by _ = startd

abbrev pub is_readable : Setting → Bool
is_readable Unreadable = false
is_readable _ = true

abbrev pub owned_by_setting : Bool → Setting → Instance → Instance
owned_by_setting true s i = record i { row = record i.row { owner = owner_by s } }
owned_by_setting false s i = i

-- an instance as it is read: while its row number is 0 its owner is what `general/restarter` says
unfoldable pub current : Groups → Instance → Instance
current gs i = owned_by_setting (i.row.number == 0) (setting gs i) i

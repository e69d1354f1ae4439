-- How the owners that an edit leaves to write are worked out, before its changes are made.
use Rattle.std.specs.Prelude.{ℕ, nat_eq, ◌==◌, ◌&&◌, not, List, [], ◌∷◌, ◌++◌, if◌then◌else◌, Option, Some, None, is_some, ◌≡◌}
use Rattle.std.specs.Cmp.Lexicographic.{pointwise}
use Rattle.smf_value.specs.Groups.{GroupRecord}
use Rattle.smf_value.specs.declared.fault.GroupFault.{GroupFault}
use Rattle.smf_value.specs.declared.fault.GroupFault.TheVariants.{Memory}
use Rattle.smf_model.specs.declared.change.Change.{Change}
use Rattle.smf_model.specs.declared.change.Change.TheVariants.{PutInstance}
use Rattle.smf_model.specs.declared.held.Instance.{Instance}
use Rattle.smf_model.specs.declared.held.InstanceEntry.{InstanceEntry}
use Rattle.smf_model.specs.declared.held.Owner.{Owner}
use Rattle.smf_model.specs.declared.held.Owner.TheVariants as owners
use Rattle.smf_model.specs.declared.general_group.Setting.{Setting}
use Rattle.smf_model.specs.Contents.{Holdings}
use Rattle.smf_model.specs.declared.command.CommandReply.{CommandReply}
use Rattle.smf_model.specs.declared.command.CommandReply.TheVariants.{Done}
use Rattle.smf_model.specs.Look.{group, group_in, instance, service}
use Rattle.smf_model.specs.Next.{is_instance_of}
use Rattle.smf_model.specs.GeneralGroup.{general, owner_by, service_fmri, service_owner, setting_by}

abbrev pub with_owner : Instance → List ℕ → Instance
with_owner i owner = record i { row = record i.row { owner = owner } }

-- the owner that a setting names, if the row has number 0 and shows another
abbrev pub owner_put : Setting → Instance → List Change
owner_put s i =
    if (i.row.number == 0) && not (pointwise nat_eq i.row.owner (owner_by s))
    then PutInstance (with_owner i (owner_by s)) ∷ []
    else []

-- the same, if the instance is one of the service
abbrev pub owner_put_in : List ℕ → Setting → Instance → List Change
owner_put_in service s i = if is_instance_of service i then owner_put s i else []

-- those of the instances of a service that has this group `general` from now on
abbrev pub owners_of_service : List ℕ → Option GroupRecord → List InstanceEntry → List Change
owners_of_service service g [] = []
owners_of_service service g (e ∷ es) =
    owner_put_in service (setting_by (group_in e.groups general) g) e.instance ++ owners_of_service service g es

-- one of them, if the instance x has this group `general` of its own from now on
abbrev pub owner_beside : List ℕ → Option GroupRecord → Instance → Option GroupRecord → InstanceEntry → List Change
owner_beside service g x own e =
    if e.instance.number == x.number then owner_put_in service (setting_by own g) x
    else owner_put_in service (setting_by (group_in e.groups general) g) e.instance

abbrev pub owners_beside : List ℕ → Option GroupRecord → Instance → Option GroupRecord → List InstanceEntry
    → List Change
owners_beside service g x own [] = []
owners_beside service g x own (e ∷ es) = owner_beside service g x own e ++ owners_beside service g x own es

-- that of an instance that has this group `general` from now on
abbrev pub owner_of_instance : Holdings → Option GroupRecord → Option Instance → List Change
owner_of_instance h own None = []
owner_of_instance h own (Some i) = owner_put (setting_by own (group h (service_owner i) general)) i

-- those of the instances of an owner of groups that has these groups from now on
unfoldable pub owners_behind : Holdings → Owner → List GroupRecord → List Change
owners_behind h (owners.Service name) gs = owners_of_service name (group_in gs general) h.instances
owners_behind h (owners.Instance n) gs = owner_of_instance h (group_in gs general) (instance h n)

-- ---- a revert

-- a held instance has this number and this name
pub record IsHeldAs (h : Holdings) (i : Instance) : Type 0 where
  pub held : Instance
  pub found : instance h i.number ≡ Some held
  pub name : i.name ≡ held.name

-- the instance, with the snapshot that a revert takes as its `previous`
abbrev pub instance_with_previous : Holdings → Instance → Instance
instance_with_previous h i = record i { previous = Some h.next_snapshot }

-- the group `general` that a service has from now on, if it is there
abbrev pub general_after : Holdings → List ℕ → List GroupRecord → Option GroupRecord
general_after h name gs = if is_some (service h name) then group_in gs general else None

unfoldable pub owners_reverted : Holdings → Instance → List GroupRecord → List GroupRecord → List Change
owners_reverted h i ss gs =
    owners_beside (service_fmri i.name) (general_after h (service_fmri i.name) ss) (instance_with_previous h i)
    (group_in gs general) h.instances

-- ---- what is done

-- more changes after those of an edit that is done
abbrev pub and_others : List Change → List Change → CommandReply → List Change
and_others changes others Done = changes ++ others
and_others changes others _ = changes

-- this fault is the other, and no want of memory
abbrev pub IsVerdict : GroupFault → GroupFault → Type 0
IsVerdict f Memory = ⊥
IsVerdict f fault = f ≡ fault

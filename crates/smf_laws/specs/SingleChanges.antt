-- Commands that change one thing: an ask of an instance, the launch of a restarter, or a group.
use Rattle.std.specs.Prelude.{◌≡◌, ◌⊎◌, ◌+◌, ◌<◌, ℕ, List, [], not, Bool, true, false, Option, Some, None, Ok}
use Rattle.std.specs.Int.RustNames.{bit_or}
use Rattle.smf_fmri.specs.ByKey.{lookup}
use Rattle.smf_state.specs.declared.row.Row.{Row}
use Rattle.smf_state.specs.declared.state.State.TheVariants.{Maintenance}
use Rattle.smf_state.specs.Rows.{same_state}
use Rattle.smf_value.specs.Groups.{GroupRecord}
use Rattle.smf_model.specs.declared.command.Command.{Command}
use Rattle.smf_model.specs.declared.command.Command.TheVariants as commands
use Rattle.smf_model.specs.declared.command.Edit.TheVariants as asked_for
use Rattle.smf_model.specs.declared.command.Mark.{Mark}
use Rattle.smf_model.specs.declared.command.Mark.TheVariants as marks
use Rattle.smf_model.specs.declared.command.PropertyChange.{PropertyChange}
use Rattle.smf_model.specs.declared.command.CommandReply.{CommandReply}
use Rattle.smf_model.specs.declared.command.CommandReply.TheVariants.{Limit, Made}
use Rattle.smf_model.specs.declared.held.Instance.{Instance}
use Rattle.smf_model.specs.declared.held.Owner.{Owner}
use Rattle.smf_model.specs.Contents.{Holdings}
use Rattle.smf_model.specs.Laws.{IsNumbered}
use Rattle.smf_model.specs.Look.{by_launch, group, instance, instances, launch_of, groups_if_there}
use Rattle.smf_model.specs.Next.{greatest, property_changed}
use Rattle.smf_model.specs.GeneralGroup.{general}
use Rattle.smf_laws.specs.Effects.{IsAsRead}

-- ---- asks

abbrev pub restart_command : ℕ → Command
restart_command n = commands.Edit (asked_for.Restart n)

abbrev pub clear_command : ℕ → Command
clear_command n = commands.Edit (asked_for.Clear n)

abbrev pub mark_command : ℕ → Mark → Command
mark_command n mark = commands.Edit (asked_for.Mark n mark)

-- the bits of asks
abbrev pub restart_bit : ℕ
restart_bit = 16

abbrev pub clear_bit : ℕ
clear_bit = 32

abbrev pub mark_bit : Mark → ℕ
mark_bit marks.Degraded = 64
mark_bit marks.Maintenance = 2
mark_bit marks.MaintenanceNow = 1

-- an instance in maintenance is not put there again
abbrev pub has_effect : Mark → Row → Bool
has_effect marks.Degraded r = true
has_effect marks.Maintenance r = not (same_state r.state Maintenance)
has_effect marks.MaintenanceNow r = not (same_state r.state Maintenance)

-- the same instance, of which this is asked too
abbrev pub asked_too : ℕ → Instance → Instance
asked_too bit i = record i { row = record i.row { asks = record { 0 = bit_or i.row.asks.0 bit } } }

-- one revision is made, and the instance i becomes j, and nothing else is changed
pub record Becomes (i j : Instance) (h k : Holdings) : Type 0 where
  pub is_there : instance k i.number ≡ Some j
  pub others : (m : ℕ) → (m ≡ i.number → ⊥) → instance k m ≡ instance h m
  pub groups : (owner : Owner) → groups_if_there k owner ≡ groups_if_there h owner
  pub rest : k ≡ record h { instances = k.instances; revision = h.revision + 1 }

-- the ask is noted, or the command has no effect but a revision
abbrev pub IsNoted : Bool → ℕ → Instance → Holdings → Holdings → Type 0
IsNoted true bit i h k = Becomes i (asked_too bit i) h k
IsNoted false bit i h k = k ≡ record h { revision = h.revision + 1 }

-- ---- launches

pub record MayLaunch (name : List ℕ) (h : Holdings) : Type 0 where
  pub launch : launch_of h name < greatest
  pub revision : h.revision < greatest

-- a launch gets the number after the last one of its restarter, or is past a limit
abbrev pub IsLaunchAnswer : List ℕ → Holdings → CommandReply → Type 0
IsLaunchAnswer name h r =
    ((r ≡ Made (launch_of h name + 1)) × MayLaunch name h) ⊎ ((r ≡ Limit) × (MayLaunch name h → ⊥))

pub record IsLaunched (name : List ℕ) (n : ℕ) (h k : Holdings) : Type 0 where
  pub counted : n ≡ launch_of h name + 1
  pub is_there : lookup by_launch k.launches name ≡ Some (record { restarter = name; count = n })
  pub others : (other : List ℕ) → (other ≡ name → ⊥)
      → lookup by_launch k.launches other ≡ lookup by_launch h.launches other
  pub rest : k ≡ record h { launches = k.launches; revision = h.revision + 1 }

-- ---- groups

abbrev pub adding_group : Owner → List ℕ → List ℕ → Bool → Command
adding_group owner name group_type non_persistent =
    commands.Edit (asked_for.AddGroup owner name group_type non_persistent)

abbrev pub deleting_group : Owner → List ℕ → Command
deleting_group owner name = commands.Edit (asked_for.DeleteGroup owner name)

abbrev pub changing_group : Owner → List ℕ → PropertyChange → Command
changing_group owner name change = commands.Edit (asked_for.Property owner name change)

abbrev pub without_properties : List ℕ → List ℕ → Bool → GroupRecord
without_properties name group_type non_persistent =
    record { name = name; group_type = group_type; non_persistent = non_persistent; properties = [] }

-- one revision is made, the group of a name of one owner is o, and no other group changes. No row changes either,
-- unless the group is `general`: then rows may come to show the owner that is read now
pub record IsGroupThen (owner : Owner) (name : List ℕ) (o : Option GroupRecord) (h k : Holdings) : Type 0 where
  pub is_so : group k owner name ≡ o
  pub other_groups : (other : List ℕ) → (other ≡ name → ⊥) → group k owner other ≡ group h owner other
  pub other_owners : (other : Owner) → (other ≡ owner → ⊥) → groups_if_there k other ≡ groups_if_there h other
  pub rows : IsNumbered h → (n : ℕ) → IsAsRead k (instance h n) (instance k n)
  pub other_rows : (name ≡ general → ⊥) → instances k ≡ instances h
  pub rest : k ≡ record h { services = k.services; instances = k.instances; revision = h.revision + 1 }

pub record IsGroupAdded (owner : Owner) (g : GroupRecord) (h k : Holdings) : Type 0 where
  pub was_free : group h owner g.name ≡ None
  pub then_there : IsGroupThen owner g.name (Some g) h k
  pub rows : instances k ≡ instances h

pub record IsGroupDeleted (owner : Owner) (name : List ℕ) (h k : Holdings) : Type 0 where
  pub was_there : (g : GroupRecord) × (group h owner name ≡ Some g)
  pub then_gone : IsGroupThen owner name None h k

-- the group is what the change makes of it
pub record IsGroupChanged (owner : Owner) (name : List ℕ) (change : PropertyChange) (h k : Holdings) : Type 0 where
  pub before : GroupRecord
  pub after : GroupRecord
  pub was_there : group h owner name ≡ Some before
  pub changed : property_changed change before ≡ Ok after
  pub then_so : IsGroupThen owner name (Some after) h k

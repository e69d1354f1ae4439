-- The values that the types of the program allow: groups that a body may hold, and names.
use Rattle.std.specs.List.{AllByRecursion}
use Rattle.smf_value.specs.Body.{AreGroups}
use Rattle.smf_value.specs.Names.{IsName}
use Rattle.smf_model.specs.declared.command.Command.{Command}
use Rattle.smf_model.specs.declared.command.Command.TheVariants as commands
use Rattle.smf_model.specs.declared.command.Edit.{Edit}
use Rattle.smf_model.specs.declared.command.Edit.TheVariants as edits
use Rattle.smf_model.specs.declared.command.PropertyChange.{PropertyChange}
use Rattle.smf_model.specs.declared.command.PropertyChange.TheVariants as properties
use Rattle.smf_model.specs.declared.held.InstanceEntry.{InstanceEntry}
use Rattle.smf_model.specs.declared.held.Service.{Service}
use Rattle.smf_model.specs.declared.held.Snapshot.{Snapshot}
use Rattle.smf_model.specs.Contents.{Holdings}

abbrev pub IsFormedService : Service → Type 0
IsFormedService s = AreGroups s.groups

abbrev pub IsFormedEntry : InstanceEntry → Type 0
IsFormedEntry e = AreGroups e.groups

abbrev pub IsFormedSnapshot : Snapshot → Type 0
IsFormedSnapshot s = AreGroups s.service_groups × AreGroups s.instance_groups

-- all groups that are held
pub record IsFormed (h : Holdings) : Type 0 where
  pub services : AllByRecursion IsFormedService h.services
  pub instances : AllByRecursion IsFormedEntry h.instances
  pub snapshots : AllByRecursion IsFormedSnapshot h.snapshots

-- the name that a property may get
abbrev pub IsFormedChange : PropertyChange → Type 0
IsFormedChange (properties.Set name kind values) = IsName name
IsFormedChange (properties.AddValue name kind value) = IsName name
IsFormedChange _ = Unit {0}

abbrev pub IsFormedEdit : Edit → Type 0
IsFormedEdit (edits.AddGroup owner name group_type non_persistent) = IsName name × IsName group_type
IsFormedEdit (edits.Property owner name change) = IsFormedChange change
IsFormedEdit _ = Unit {0}

abbrev pub IsFormedCommand : Command → Type 0
IsFormedCommand (commands.Edit edit) = IsFormedEdit edit
IsFormedCommand _ = Unit {0}

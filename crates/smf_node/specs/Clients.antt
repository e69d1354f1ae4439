-- A node to which a client gives an edit.
use Rattle.std.specs.Prelude.{◌≡◌, [], ◌∷◌, Result, Ok, Err}
use Rattle.smf_model.specs.declared.command.Edit.{Edit}
use Rattle.smf_model.specs.declared.command.CommandReply.{CommandReply}
use Rattle.smf_model.specs.declared.journal.RepoFault.{RepoFault}
use Rattle.smf_model.specs.declared.journal.RepoFault.TheVariants as journals
use Rattle.smf_model.specs.Contents.{Holdings}
use Rattle.smf_node.specs.declared.fault.NodeFault.{NodeFault}
use Rattle.smf_node.specs.declared.fault.NodeFault.TheVariants.{Memory, Database}
use Rattle.smf_node.specs.Faults.{IsLack}
use Rattle.smf_world.specs.declared.event.Event.TheVariants as events
use Rattle.smf_past.specs.Begun.{IsSafeSince}
use Rattle.smf_world.specs.Schedule.{Progress, on}
use Rattle.smf_world.specs.Worked.{work_of_event}

-- the holdings that clients read
abbrev pub held_by : Progress → Holdings
held_by p = p.world.now

-- a fault of the repository is the node's of the same name
abbrev pub fault_by : RepoFault → NodeFault
fault_by journals.Memory = Memory
fault_by journals.Database = Database

-- an edit that has a reply is an event; one that has none changed nothing
abbrev pub IsEnd : (RepoFault → Type 0) → Progress → Edit → Result CommandReply RepoFault → Progress → Type 0
IsEnd stores before edit (Ok reply) after =
    (after ≡ on before (events.Client edit)) × ((work_of_event before.world (events.Client edit)).reply ≡ reply ∷ [])
IsEnd stores before edit (Err fault) after =
    (after ≡ before) × IsLack stores before.world (events.Client edit) (fault_by fault)

-- an edit was given to a node, and ended so
pub record IsEditOf (stores : RepoFault → Type 0) (before : Progress) (edit : Edit)
    (end : Result CommandReply RepoFault) (after : Progress) : Type 0 where
  pub end_is : IsEnd stores before edit end after
  pub safe : IsSafeSince after.world

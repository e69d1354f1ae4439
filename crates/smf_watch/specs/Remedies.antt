-- What a server does about instances that fail: as an administrator would, it marks some for maintenance, and clears others.
use Rattle.std.specs.Prelude.{◌≡◌, ℕ, List, [], ◌∷◌, ◌++◌, map}
use Rattle.smf_model.specs.declared.command.Edit.{Edit}
use Rattle.smf_model.specs.declared.command.Edit.TheVariants as edits
use Rattle.smf_model.specs.declared.command.Mark.TheVariants.{Maintenance}
use Rattle.smf_model.specs.declared.journal.RepoFault.{RepoFault}
use Rattle.smf_node.specs.declared.fault.NodeFault.{NodeFault}
use Rattle.smf_node.specs.Faults.{IsLack}
use Rattle.smf_watch.specs.declared.remedies.Remedy.{Remedy}
use Rattle.smf_watch.specs.declared.remedies.Remedy.TheVariants.{Marks, Clears}
use Rattle.smf_world.specs.declared.event.Event.{Event}
use Rattle.smf_world.specs.declared.event.Event.TheVariants.{Client}
use Rattle.smf_world.specs.Schedule.{Progress, on}

-- `svcadm mark maintenance` and `svcadm clear`
abbrev pub edit_of : Remedy → Edit
edit_of (Marks n) = edits.Mark n Maintenance
edit_of (Clears n) = edits.Clear n

abbrev pub event_of : Remedy → Event
event_of r = Client (edit_of r)

abbrev pub marks_of : List ℕ → List Remedy
marks_of ns = map Marks ns

abbrev pub clears_of : List ℕ → List Remedy
clears_of ns = map Clears ns

-- one after another
abbrev pub remedied : List Remedy → Progress → Progress
remedied [] p = p
remedied (r ∷ rs) p = remedied rs (on p (event_of r))

-- the first of them were done, and at the next one memory ran out or the journal could not be written
pub record StopsAtOne (stores : RepoFault → Type 0) (remedies : List Remedy) (p q : Progress) (e : NodeFault) : Type 0 where
  pub first : List Remedy
  pub failed : Remedy
  pub rest : List Remedy
  pub whole : remedies ≡ first ++ failed ∷ rest
  pub are : q ≡ remedied first p
  pub fault : IsLack stores q.world (event_of failed) e

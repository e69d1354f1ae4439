-- Events one after another.
use Rattle.std.specs.Prelude.{◌≡◌, ◌⊎◌, ℕ, List, [], ◌∷◌, ◌++◌, slice_get, Option, None}
use Rattle.smf_model.specs.declared.command.CommandReply.{CommandReply}
use Rattle.smf_model.specs.declared.journal.RepoFault.{RepoFault}
use Rattle.smf_node.specs.declared.fault.NodeFault.{NodeFault}
use Rattle.smf_node.specs.declared.fault.NodeFault.TheVariants.{Memory}
use Rattle.smf_node.specs.Faults.{IsFault, IsLack, event_refusal}
use Rattle.smf_world.specs.declared.event.Event.{Event}
use Rattle.smf_world.specs.declared.event.Event.TheVariants as events
use Rattle.smf_world.specs.Schedule.{Progress, delivered_again, on}
use Rattle.smf_world.specs.Worked.{work_of_event}

-- the reply to a client's command; nobody asks for another
abbrev pub reply_of : Event → List CommandReply → Option CommandReply
reply_of (events.Client edit) rs = slice_get rs 0
reply_of _ rs = None

-- an event happened, and had this reply
pub record IsStep (before : Progress) (event : Event) (after : Progress) (reply : Option CommandReply) : Type 0 where
  pub taken : event_refusal before.world event ≡ None
  pub made : after ≡ on before event
  pub said : reply ≡ reply_of event (work_of_event before.world event).reply

-- these events happened, the first first
abbrev pub RunsAll : Progress → List Event → Progress → Type 0
RunsAll before [] after = after ≡ before
RunsAll before (e ∷ es) after = (event_refusal before.world e ≡ None) × RunsAll (on before e) es after

-- the events before the one that ended with this fault happened
pub record RunsUntilFault (fails : RepoFault → Type 0) (before : Progress) (all : List Event) (after : Progress)
    (e : NodeFault) : Type 0 where
  pub first : List Event
  pub failed : Event
  pub rest : List Event
  pub whole : all ≡ first ++ failed ∷ rest
  pub went : RunsAll before first after
  pub fault : IsFault fails after.world failed e

-- the messages before the one whose delivery ended with this fault were delivered again
pub record RepeatsUntilFault (fails : RepoFault → Type 0) (before : Progress) (all : List ℕ) (after : Progress)
    (e : NodeFault) : Type 0 where
  pub first : List ℕ
  pub failed : ℕ
  pub rest : List ℕ
  pub whole : all ≡ first ++ failed ∷ rest
  pub went : after ≡ delivered_again first before
  pub fault : IsLack fails after.world (events.Deliver failed) e

-- memory ran out before anything was done
abbrev pub IsNotBegun : Progress → Progress → NodeFault → Type 0
IsNotBegun before after e = (e ≡ Memory) × (after ≡ before)

abbrev pub RepeatFails : (RepoFault → Type 0) → Progress → List ℕ → Progress → NodeFault → Type 0
RepeatFails fails before all after e = IsNotBegun before after e ⊎ RepeatsUntilFault fails before all after e

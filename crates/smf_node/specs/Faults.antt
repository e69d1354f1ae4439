-- Which events cannot happen, and with which faults the calls of the node may end.
use Rattle.std.specs.Prelude.{◌≡◌, ◌⊎◌, ◌<◌, not, nat_lt, List, length, Bool, true, false, if◌then◌else◌, Option, Some, None}
use Rattle.smf_machine.specs.declared.fault.MachineFault.{MachineFault}
use Rattle.smf_machine.specs.declared.fault.MachineFault.TheVariants as machines
use Rattle.smf_model.specs.declared.change.Change.{Change}
use Rattle.smf_model.specs.declared.command.Command.{Command}
use Rattle.smf_model.specs.declared.command.Command.TheVariants as commands
use Rattle.smf_model.specs.declared.command.CommandReply.{CommandReply}
use Rattle.smf_model.specs.declared.command.CommandReply.TheVariants as replies
use Rattle.smf_model.specs.declared.journal.RepoFault.{RepoFault}
use Rattle.smf_model.specs.declared.journal.RepoFault.TheVariants as journals
use Rattle.smf_model.specs.Contents.{Holdings}
use Rattle.smf_model.specs.Next.{outcome_of_command}
use Rattle.smf_node.specs.declared.fault.NodeFault.{NodeFault}
use Rattle.smf_node.specs.declared.fault.NodeFault.TheVariants.{Memory, Database, Limit, NoSuchMessage, NoSuchActor}
use Rattle.smf_world.specs.declared.event.Event.{Event}
use Rattle.smf_world.specs.declared.event.Event.TheVariants as events
use Rattle.smf_world.specs.declared.event.SpawnAnswer.TheVariants as spawns
use Rattle.smf_world.specs.declared.schedule.Deed.{Deed}
use Rattle.smf_world.specs.declared.schedule.Deed.TheVariants as deeds
use Rattle.smf_world.specs.Schedule.{Progress, refuses}
use Rattle.smf_world.specs.Worked.{is_launched, work_of_event}
use Rattle.smf_world.specs.World.{World}

-- ---- what cannot happen

-- an event delivers a message that was never sent
abbrev pub is_unsent : World → Event → Bool
is_unsent w (events.Deliver place) = not (nat_lt place (length w.sent))
is_unsent w e = false

-- an event names an actor against its launch: one to be launched that is, or one to act or to crash that is not
abbrev pub is_against_launch : World → Event → Bool
is_against_launch w (events.Launch name) = is_launched w name
is_against_launch w (events.OwnTick name) = not (is_launched w name)
is_against_launch w (events.Tick name n spawn) = not (is_launched w name)
is_against_launch w (events.Timeout name n) = not (is_launched w name)
is_against_launch w (events.Crash name) = not (is_launched w name)
is_against_launch w e = false

abbrev pub is_limit : CommandReply → Bool
is_limit replies.Limit = true
is_limit _ = false

-- a command is refused, since a number that it needs has no next one
abbrev pub is_past_limit : Holdings → Command → Bool
is_past_limit h c = is_limit (outcome_of_command h c).reply

-- a launch or a boot is refused so
abbrev pub lacks_number : World → Event → Bool
lacks_number w (events.Launch name) = is_past_limit w.now (commands.Launch name)
lacks_number w events.Boot = is_past_limit w.now commands.Boot
lacks_number w e = false

-- why an event cannot happen, whatever memory and journal are
abbrev pub event_refusal : World → Event → Option NodeFault
event_refusal w e =
    if is_unsent w e then Some NoSuchMessage
    else if is_against_launch w e then Some NoSuchActor
    else if lacks_number w e then Some Limit
    else None

-- ---- faults

-- the node's fault for a fault of the machine
abbrev pub fault_of : MachineFault → NodeFault
fault_of machines.Memory = Memory
fault_of machines.Database = Database
fault_of machines.Limit = Limit

-- memory ran out, or there were changes of what the repository holds that its journal could not write
abbrev pub IsUnwritten : (RepoFault → Type 0) → List Change → NodeFault → Type 0
IsUnwritten fails changes e = (e ≡ Memory) ⊎ ((e ≡ Database) × fails journals.Database × (0 < length changes))

-- an event that can happen ended so
abbrev pub IsLack : (RepoFault → Type 0) → World → Event → NodeFault → Type 0
IsLack fails w event e = IsUnwritten fails (work_of_event w event).changes e

-- a first boot ended so, or is refused, since a row or a launch has no next number
abbrev pub IsUnbooted : (RepoFault → Type 0) → Holdings → NodeFault → Type 0
IsUnbooted fails h e =
    IsUnwritten fails (outcome_of_command h commands.Boot).changes e
    ⊎ ((e ≡ Limit) × (is_past_limit h commands.Boot ≡ true))

-- with this fault an event that is refused may end: that a number is missing is worked out, which needs memory
abbrev pub IsRefusal : NodeFault → NodeFault → Type 0
IsRefusal Limit e = (e ≡ Limit) ⊎ (e ≡ Memory)
IsRefusal why e = e ≡ why

-- with this fault an event may end
abbrev pub FaultOf : (RepoFault → Type 0) → World → Event → Option NodeFault → NodeFault → Type 0
FaultOf fails w event (Some why) e = IsRefusal why e
FaultOf fails w event None e = IsLack fails w event e

pub record IsFault (fails : RepoFault → Type 0) (w : World) (event : Event) (e : NodeFault) : Type 0 where
  pub why : FaultOf fails w event (event_refusal w event) e

-- ---- deeds

-- the event of a deed, if it makes one
abbrev pub event_of : Progress → Deed → Event
event_of p (deeds.Launch name) = events.Launch name
event_of p deeds.DeliverNext = events.Deliver p.next
event_of p deeds.Ask = events.Ask
event_of p deeds.Orders = events.Orders
event_of p (deeds.Report e) = events.Report e.contract e.number
event_of p (deeds.OwnTick name) = events.OwnTick name
event_of p (deeds.Tick name n) = events.Tick name n (if refuses p name n then spawns.Refused else spawns.Made)

-- with this fault a deed may end: no schedule delivers what was never sent, nor names an actor against its launch
abbrev pub IsDeedFault : (RepoFault → Type 0) → Progress → Deed → NodeFault → Type 0
IsDeedFault fails p d e =
    IsLack fails p.world (event_of p d) e ⊎ ((e ≡ Limit) × (lacks_number p.world (event_of p d) ≡ true))

-- That an event happened.
use Rattle.std.specs.Prelude.{◌≡◌, ℕ, List, Bool, false, not, Option, Some, None}
use Rattle.smf_model.specs.declared.command.CommandReply.{CommandReply}
use Rattle.smf_restarter.specs.Knowledge.{Knowledge}
use Rattle.smf_restarter.specs.Ticks.{is_up}
use Rattle.smf_wire.specs.declared.message.Message.{Message}
use Rattle.smf_wire.specs.declared.message.Message.TheVariants as messages
use Rattle.smf_wire.specs.declared.message.ViewChanges.{ViewChanges}
use Rattle.smf_world.specs.declared.event.Event.{Event}
use Rattle.smf_world.specs.declared.event.Event.TheVariants as events
use Rattle.smf_world.specs.Happens.{happens}
use Rattle.smf_world.specs.Worked.{sent_at, work_of_event}
use Rattle.smf_world.specs.World.{World}

-- an event happened; if it is a command, it had this reply
pub record IsDone (before : World) (event : Event) (after : World) (reply : List CommandReply) : Type 0 where
  pub made : after ≡ happens before event
  pub said : reply ≡ (work_of_event before event).reply

-- the changes that a message is
abbrev pub changes_in : Option Message → Option ViewChanges
changes_in (Some (messages.Changes c)) = Some c
changes_in _ = None

-- the place of the message that an event delivers
abbrev pub delivered_place : Event → Option ℕ
delivered_place (events.Deliver place) = Some place
delivered_place _ = None

abbrev pub changes_at : World → Option ℕ → Option ViewChanges
changes_at w None = None
changes_at w (Some place) = changes_in (sent_at w place)

-- the changes that an event delivers
abbrev pub changes_of : World → Event → Option ViewChanges
changes_of w e = changes_at w (delivered_place e)

-- a restarter that is launched, and does not take orders yet
abbrev pub is_beginning : Option Knowledge → Bool
is_beginning None = false
is_beginning (Some k) = not (is_up k.stage)

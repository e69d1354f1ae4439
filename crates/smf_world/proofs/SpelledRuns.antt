-- Whatever happens, the messages that are sent are read again from their lines.
use Rattle.std.proofs.Common.{◌≡◌, refl, Option, None, IfSome, List, [], ◌∷◌, ◌++◌, reverse, subst, ℕ, Some}
use Rattle.std.specs.List.{AllByRecursion}
use Rattle.smf_model.specs.Contents.{Holdings}
use Rattle.smf_model.specs.Laws.{IsNumbered}
use Rattle.smf_model.specs.declared.command.Command.{Command}
use Rattle.smf_model.specs.Next.{outcome_of_command, next}
use Rattle.smf_model.specs.Look.{empty}
use Rattle.smf_wire.specs.declared.message.Message.{Message}
use Rattle.smf_wire.specs.declared.message.Message.TheVariants as messages
use Rattle.smf_wire.specs.Lines.{IsSpelled}
use Rattle.smf_world.specs.declared.event.Event.{Event}
use Rattle.smf_world.specs.declared.event.Event.TheVariants as events
use Rattle.smf_world.specs.declared.work.Work.{Work}
use Rattle.smf_world.specs.Formed.{IsFormed, IsFormedCommand}
use Rattle.smf_world.specs.Happens.{world_after, happens}
use Rattle.smf_world.specs.Reached.{IsReached}
use Rattle.smf_world.specs.Runs.{run}
use Rattle.smf_world.specs.Spelled.{AreFormedEvents, AreInOrder, AreSpelled, HasBodies, IsFormedEvent, IsInOrder}
use Rattle.smf_world.specs.Worked.{work_of_event, sent_at}
use Rattle.smf_world.specs.World.{World, initial_world}
use Rattle.smf_world.proofs.FormedCommands.{command_formed}
use Rattle.smf_world.proofs.FormedChanges.{IsFormedBy, formed_installed}
use Rattle.smf_world.proofs.LiveEach.{each_reversed, each_sent}
use Rattle.smf_world.proofs.LiveLists.{Each}
use Rattle.smf_world.proofs.Logged.{numbered}
use Rattle.smf_world.proofs.SpelledChanges.{all_spelled}
use Rattle.smf_world.proofs.SpelledMessages.{AnyChange, Does, gives_any, gives_formed, says_in_order, says_spelled, work_does}

to_each : (P : Message → Type 0) (ms : List Message) → AllByRecursion P ms → Each P ms
to_each P [] a = tt
to_each P (m ∷ ms) a = (a.0, to_each P ms a.1)

from_each : (P : Message → Type 0) (ms : List Message) → Each P ms → AllByRecursion P ms
from_each P [] a = tt
from_each P (m ∷ ms) a = (a.0, from_each P ms a.1)

-- a fact of each message that was sent, and of those of the work, holds after the work
sent_by : (P : Message → Type 0) (w : World) (k : Work) → AllByRecursion P k.messages → AllByRecursion P w.sent
    → AllByRecursion P (world_after w k).sent
unfolding world_after
sent_by P w k a b =
    from_each P (reverse k.messages ++ w.sent)
    (each_reversed P k.messages w.sent (to_each P k.messages a) (to_each P w.sent b))

pub spelled_at : (w : World) (place : ℕ) (m : Message) → AreSpelled w → sent_at w place ≡ Some m → IsSpelled m
spelled_at w place m a e = each_sent IsSpelled w.sent place m (to_each IsSpelled w.sent a) e

-- ---- but for bodies

in_order_event : (w : World) (e : Event) → IsNumbered w.now → AreInOrder w → AreInOrder (happens w e)
unfolding happens
in_order_event w e n a =
    let d : Does IsInOrder AnyChange (work_of_event w e) =
    work_does IsInOrder AnyChange w e (says_in_order w.now n) (gives_any w.now e) in
    sent_by IsInOrder w (work_of_event w e) d.says a

in_order_run : (es : List Event) (w : World) → IsNumbered w.now → AreInOrder w → AreInOrder (run es w)
in_order_run [] w n a = a
in_order_run (e ∷ es) w n a = in_order_run es (happens w e) (numbered w e n) (in_order_event w e n a)

pub reached_in_order : (w : World) → IsReached w → AreInOrder w
reached_in_order w r =
    subst AreInOrder r.since.1
    (in_order_run r.since.0 (happens (initial_world w.history.first) events.Boot)
    (numbered (initial_world w.history.first) events.Boot r.numbered)
    (in_order_event (initial_world w.history.first) events.Boot r.numbered tt))

-- a message that is in order, with bodies that are read, is spelled
pub ordered_spelled : (m : Message) → IsInOrder m → HasBodies m → IsSpelled m
ordered_spelled (messages.Join name launch) a b = tt
ordered_spelled (messages.Rows name launch rows) a b = a
ordered_spelled (messages.Propose p) a b = tt
ordered_spelled (messages.Ack name launch serial n row) a b = tt
ordered_spelled (messages.Nack name launch serial n why row) a b = a
ordered_spelled messages.AskView a b = tt
ordered_spelled (messages.View v) a b = record { rises = a; bodies = b }
ordered_spelled (messages.AskChange since) a b = tt
ordered_spelled (messages.Changes news) a b = record { rises = a.0; changes = all_spelled news.items a.1 b }
ordered_spelled (messages.Order o) a b = tt

spelled_if : (o : Option Message) → ((m : Message) → o ≡ Some m → IsInOrder m)
    → IfSome o (λ m. HasBodies m → IsSpelled m)
spelled_if None is = tt
spelled_if (Some m) is = λ bodies. ordered_spelled m (is m refl) bodies

pub reached_at : (w : World) (place : ℕ) → IsReached w → IfSome (sent_at w place) (λ m. HasBodies m → IsSpelled m)
reached_at w place r =
    spelled_if (sent_at w place)
    (λ m e. each_sent IsInOrder w.sent place m (to_each IsInOrder w.sent (reached_in_order w r)) e)

-- ---- what is held

pub nothing_formed : IsFormed empty
nothing_formed = record { services = tt; instances = tt; snapshots = tt }

pub formed_next : (h : Holdings) (c : Command) → IsFormed h → IsFormedCommand c → IsFormed (next h c).0
unfolding next
formed_next h c f is = formed_installed h (outcome_of_command h c).changes f (command_formed h c f is)

-- ---- all of it

does_formed : (w : World) (e : Event) → IsNumbered w.now → IsFormed w.now → IsFormedEvent e
    → Does IsSpelled IsFormedBy (work_of_event w e)
does_formed w e n f is = work_does IsSpelled IsFormedBy w e (says_spelled w.now n f) (gives_formed w.now e f is)

pub formed_event : (w : World) (e : Event) → IsNumbered w.now → IsFormed w.now → IsFormedEvent e
    → IsFormed (happens w e).now
unfolding happens world_after
formed_event w e n f is = formed_installed w.now (work_of_event w e).changes f (does_formed w e n f is).makes

pub spelled_event : (w : World) (e : Event) → IsNumbered w.now → IsFormed w.now → IsFormedEvent e → AreSpelled w
    → AreSpelled (happens w e)
unfolding happens
spelled_event w e n f is a = sent_by IsSpelled w (work_of_event w e) (does_formed w e n f is).says a

spelled_from : (es : List Event) (w : World) → IsNumbered w.now → IsFormed w.now → AreFormedEvents es → AreSpelled w
    → AreSpelled (run es w)
spelled_from [] w n f is a = a
spelled_from (e ∷ es) w n f is a =
    spelled_from es (happens w e) (numbered w e n) (formed_event w e n f is.0) is.1 (spelled_event w e n f is.0 a)

pub spelled_run : (h : Holdings) (es : List Event) → IsNumbered h → IsFormed h → AreFormedEvents es
    → AreSpelled (run es (initial_world h))
spelled_run h es n f is = spelled_from es (initial_world h) n f is tt

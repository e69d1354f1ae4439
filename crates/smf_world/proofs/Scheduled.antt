-- A list of events makes each world that a schedule makes.
use Rattle.std.proofs.Common.{◌≡◌, ℕ, Bool, true, false, List, [], ◌∷◌, Option, Some, None, refl}
use Rattle.std.specs.List.{list_any}
use Rattle.smf_contract.specs.declared.event.ContractEvent.{ContractEvent}
use Rattle.smf_wire.specs.declared.message.Message.{Message}
use Rattle.smf_world.specs.declared.event.Event.{Event}
use Rattle.smf_world.specs.declared.event.Event.TheVariants as events
use Rattle.smf_world.specs.declared.schedule.EventKey.{EventKey}
use Rattle.smf_world.specs.Happens.{happens}
use Rattle.smf_world.specs.Reached.{IsLater}
use Rattle.smf_world.specs.Schedule.{Progress, deliver_next, delivered_again, progress_after_next, delivering_if, event_key, has_key, is_heard, is_heard_in, is_known_contract, is_revision, is_skipped, mark_heard, progress_with_mark, on, past_next, report_if, report_one}
use Rattle.smf_world.specs.Worked.{sent_at}
use Rattle.smf_world.proofs.LaterWorlds.{later_by, later_self, later_then}

abbrev Later : Progress → Progress → Type 0
Later p q = IsLater p.world q.world

-- ---- events

mark_heard_world : (b : Bool) (key : EventKey) (p : Progress) → (mark_heard b key p).world ≡ p.world
mark_heard_world true key p = refl
mark_heard_world false key p = refl

-- marks are none of the world's
pub marked_world : (e : Event) (heard new : Bool) (p : Progress) → (progress_with_mark e heard new p).world ≡ p.world
marked_world (events.Deliver place) heard new p = refl
marked_world (events.Report c n) true new p =
    mark_heard_world (list_any (has_key (event_key c n)) p.unheard) (event_key c n) p
marked_world (events.Report c n) false new p = refl
marked_world events.Boot heard true p = refl
marked_world events.Boot heard false p = refl
marked_world _ heard new p = refl

pub on_world : (p : Progress) (e : Event) → (on p e).world ≡ happens p.world e
on_world p e =
    marked_world e (is_heard_in p.world e) (is_revision p.world (happens p.world e))
    (record p { world = happens p.world e })

pub later_on : (p : Progress) (e : Event) → IsLater p.world (on p e).world
later_on p e = later_by p.world (on p e).world e (on_world p e)

-- ---- deeds

later_delivering : (b : Bool) (p : Progress) → Later p (progress_after_next b p)
later_delivering true p = later_self p.world
later_delivering false p = later_on (past_next p) (events.Deliver p.next)

later_delivering_if : (o : Option Message) (p : Progress) → Later p (delivering_if o p)
later_delivering_if None p = later_self p.world
later_delivering_if (Some m) p = later_delivering (is_skipped p) p

pub later_delivered : (p : Progress) → IsLater p.world (deliver_next p).world
unfolding deliver_next
later_delivered p = later_delivering_if (sent_at p.world p.next) p

later_report_if : (heard known : Bool) (e : ContractEvent) (p : Progress) → Later p (report_if heard known e p)
later_report_if true known e p = later_on p (events.Report e.contract e.number)
later_report_if false true e p = later_self p.world
later_report_if false false e p = later_self p.world

pub later_reported : (e : ContractEvent) (p : Progress) → IsLater p.world (report_one e p).world
unfolding report_one
later_reported e p = later_report_if (is_heard p.world e.contract e.number) (is_known_contract p.world e.contract) e p

-- ---- messages that come again

pub later_again : (places : List ℕ) (p : Progress) → IsLater p.world (delivered_again places p).world
later_again [] p = later_self p.world
later_again (place ∷ places) p =
    let q : Progress = on p (events.Deliver place) in
    later_then p.world q.world (delivered_again places q).world (later_on p (events.Deliver place))
    (later_again places q)

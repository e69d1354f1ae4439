-- Lines act by events alone.
use Rattle.std.proofs.Common.{◌≡◌, ℕ, inl, inr, List, sym, ap, ◌∙◌, subst}
use Rattle.smf_model.specs.declared.journal.RepoFault.{RepoFault}
use Rattle.smf_node.specs.declared.fault.NodeFault.{NodeFault}
use Rattle.smf_node.specs.Marks.{last_delivered}
use Rattle.smf_node.specs.Runs.{RepeatFails, RepeatsUntilFault}
use Rattle.smf_world.specs.declared.event.Event.{Event}
use Rattle.smf_world.specs.Reached.{IsLater}
use Rattle.smf_world.specs.Schedule.{Progress, delivered_again, progress_with_loss, on, progress_with_refusals}
use Rattle.smf_world.proofs.LaterWorlds.{later_by, later_same}
use Rattle.smf_world.proofs.Scheduled.{later_again, on_world}

pub later_on : (p q : Progress) (e : Event) → q ≡ on p e → IsLater p.world q.world
later_on p q e is = later_by p.world q.world e (ap (λ x. x.world) is ∙ on_world p e)

pub later_still : (p q : Progress) → q ≡ p → IsLater p.world q.world
later_still p q is = later_same p.world q.world (ap (λ x. x.world) is)

later_to : (p q r : Progress) → IsLater p.world q.world → r ≡ q → IsLater p.world r.world
later_to p q r l is = subst (λ (x : Progress). IsLater p.world x.world) (sym is) l

-- ---- messages that come again

later_repeat_fails : (fails : RepoFault → Type 0) (before after : Progress) (all : List ℕ) (e : NodeFault)
    → RepeatsUntilFault fails before all after e → IsLater before.world after.world
later_repeat_fails fails before after all e h = later_to before _ after (later_again h.first before) h.went

pub later_repeat : (k : ℕ) (before after : Progress) → after ≡ delivered_again (last_delivered k before) before
    → IsLater before.world after.world
later_repeat k before after is = later_to before _ after (later_again (last_delivered k before) before) is

pub later_again_fails : (fails : RepoFault → Type 0) (before after : Progress) (all : List ℕ) (e : NodeFault)
    → RepeatFails fails before all after e → IsLater before.world after.world
later_again_fails fails before after all e (inl h) = later_still before after h.1
later_again_fails fails before after all e (inr h) = later_repeat_fails fails before after all e h

-- ---- counts of the schedule are no part of the world

pub later_refusing : (k : ℕ) (p q : Progress) → q ≡ progress_with_refusals k p → IsLater p.world q.world
unfolding progress_with_refusals
later_refusing k p q is = later_same p.world q.world (ap (λ x. x.world) is)

pub later_losing : (k : ℕ) (p q : Progress) → q ≡ progress_with_loss k p → IsLater p.world q.world
unfolding progress_with_loss
later_losing k p q is = later_same p.world q.world (ap (λ x. x.world) is)

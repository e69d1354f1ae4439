use Rattle.std.proofs.Common.{◌∙◌, arith, inl}
use Rattle.smf_past.proofs.RemainingWorlds.{leads_later, leads_self}
use Rattle.smf_server.proofs.Lasting.{lasts_same, lasts_then}
use Rattle.smf_server.proofs.Lives.{leads_on}
use Rattle.smf_server.proofs.Served.{goes_on, none_taken, stays_all, stays_closed}
use Rattle.smf_server.proofs.life.stay.Goals as goal

pub loop-init : goal.loop-init
loop-init g c = (
  none_taken g.K.Kids.skills _ _ _ _ _ _ _ (rw c.trail.ensures.shown at c.tell.ensures),
  (leads_self _, (c.trail.ensures.safe, λ held found may. inl may)),
)

pub loop-preserved : goal.loop-preserved
loop-preserved g c = (
  goes_on g.K.Kids.skills _ _ _ _ _ c.turn-onward.result.onward c.turn-onward.result.fault _ _ _ _ _ _ _ _ _ _ _ _ _ _
      c.loop.invariant.0 c.in-Goes.is c.turn-onward.ensures.turned
      c.turn-onward.ensures.agrees
      (rw c.trail-told.ensures.shown at rw c.trail-in-Goes.ensures.shown at rw c.items_after-items.ensures at
      c.tell-in-Goes.ensures)
      c.conclude-last.ensures.concluded c.conclude-last.ensures.agrees,
  (
    leads_on _ c.turn-onward.result.fault _ _ _ _ _ _ _ c.loop.invariant.1.0 c.turn-onward.ensures.later c.conclude-last.ensures.concluded,
    (
      c.conclude-last.ensures.safe,
      lasts_then _ _ _ (lasts_then _ _ _ c.loop.invariant.1.1.1 c.turn-onward.ensures.lasts)
          (lasts_same _ _ c.conclude-last.ensures.leaves),
    ),
  ),
)

pub returns-in-Ends-clause-stayed : goal.returns-in-Ends-clause-stayed
returns-in-Ends-clause-stayed g c =
    stays_closed g.K.Kids.skills _ _ _ _ _ c.turn-onward.result.onward c.turn-onward.result.fault _ _ _ _ _ _ _ _ _ _ _
    c.loop.invariant.0 c.in-Ends.is c.turn-onward.ensures.turned

pub returns-in-Ends-clause-leads : goal.returns-in-Ends-clause-leads
returns-in-Ends-clause-leads g c = leads_later _ _ _ c.loop.invariant.1.0 c.turn-onward.ensures.later

pub returns-clause-stayed : goal.returns-clause-stayed
returns-clause-stayed g c =
    stays_all g.K.Kids.skills _ _ _ _ _ _ _ _ _ _ _ _ _ c.loop.invariant.0
    (omega (arith, c.loop-test.false, c.loop.auto.counter-end))

pub returns-in-Ends-clause-lasts : goal.returns-in-Ends-clause-lasts
returns-in-Ends-clause-lasts g c = lasts_then _ _ _ c.loop.invariant.1.1.1 c.turn-onward.ensures.lasts

use Rattle.std.proofs.Common.{◌+◌, true, refl, sym, ◌∙◌}
use Rattle.smf_room.specs.Sweeps.{IsAnyEnding, IsEnding, IsRounds, no_round}
use Rattle.smf_room.proofs.Hearing.{both, both_lost, lost_of, none, on_err, weaker}
use Rattle.smf_room.proofs.Sweeping.{could_end, last_round, next_round}
use Rattle.smf_room.proofs.sweep.end_left.Goals as goal

pub loop-init : goal.loop-init
loop-init g c = record { seen = refl; heard = none _ _ _ _ no_round }

pub returns-in_err-next-clause-lost : goal.returns-in_err-next-clause-lost
returns-in_err-next-clause-lost g c =
    on_err c.from_residual.result
    (lost_of (IsAnyEnding c.args.id) (could_end c.args.id c.loop.counter c.loop.sight c.loop.invariant.seen)
    (both_lost c.loop.invariant.heard c.in_err-next.ensures.lost))

pub returns-then-is_nothing-clause-ended : goal.returns-then-is_nothing-clause-ended
returns-then-is_nothing-clause-ended g c =
    weaker (IsEnding c.args.id true)
    (last_round c.args.id c.loop.counter c.loop.sight c.in_ok-next.next c.loop.invariant.seen
    (sym c.is_nothing.ensures ∙ c.if-is_nothing.true))
    (both c.loop.invariant.heard c.in_ok-next.ensures.made)

pub loop-preserved : goal.loop-preserved
loop-preserved g c =
    record {
      seen = sym c.is_nothing.ensures ∙ c.if-is_nothing.false;
      heard = weaker (IsRounds c.args.id (c.loop.counter + 1) c.in_ok-next.next)
          (next_round c.args.id c.loop.counter c.loop.sight c.in_ok-next.next c.loop.invariant.seen)
          (both c.loop.invariant.heard c.in_ok-next.ensures.made);
    }

use Rattle.std.proofs.Common.{◌-◌, arith}
use Rattle.smf_watch.proofs.Hasty.{steady_past}
use Rattle.smf_watch.proofs.ends.was_steady.Goals as goal

pub loop-place-preserved : goal.loop-place-preserved
loop-place-preserved c =
    steady_past c.args.trail.now c.args.instance c.args.state
    (c.loop-place.place - 1) c.loop-place.place c.steady_at.result _
    (omega (arith, c.loop-place-test.true)) c.steady_at.ensures
    c.in_default.is c.loop-place.invariant

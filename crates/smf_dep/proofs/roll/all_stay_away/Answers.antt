use Rattle.smf_dep.proofs.Rolled.{all_away, more_away}
use Rattle.smf_dep.proofs.roll.all_stay_away.Goals as goal

pub loop-change-preserved : goal.loop-change-preserved
loop-change-preserved c =
    more_away c.args.changes.now c.loop-change.change-index c.change-item.result c.args.gone.now
    c.loop-change-test.true c.change-item.is (c.stays_away.ensures c.if-not-stays_away.false) c.loop-change.invariant

pub returns : goal.returns
returns c =
    λ e. all_away c.args.changes.now c.loop-change.change-index c.args.gone.now c.loop-change-test.false
    c.loop-change.invariant

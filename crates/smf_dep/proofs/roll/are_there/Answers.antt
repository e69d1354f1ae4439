use Rattle.smf_dep.proofs.Rolled.{all_there, more_there}
use Rattle.smf_dep.proofs.roll.are_there.Goals as goal

pub loop-change-preserved : goal.loop-change-preserved
loop-change-preserved c =
    more_there c.args.changes.now c.loop-change.change-index c.change-item.result c.args.roll.now.numbers
    c.args.roll.now.gone c.loop-change-test.true c.change-item.is (c.is_there.ensures c.if-not-is_there.false)
    c.loop-change.invariant

pub returns : goal.returns
returns c =
    λ e. all_there c.args.changes.now c.loop-change.change-index c.args.roll.now.numbers c.args.roll.now.gone
    c.loop-change-test.false c.loop-change.invariant

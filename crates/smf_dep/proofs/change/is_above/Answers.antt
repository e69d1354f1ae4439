use Rattle.smf_dep.proofs.ChangeSteps.{above_more, above_none}
use Rattle.smf_dep.proofs.change.is_above.Goals as goal

pub loop-member-preserved : goal.loop-member-preserved
loop-member-preserved c =
    λ h. c.loop-member.invariant
    (above_more c.args.instance c.loop-member.member-index c.args.members.now c.member-item.result c.member.result.now
    c.loop-member-test.true c.member-item.is c.member.ensures c.if-member-instance.false h)

pub returns : goal.returns
returns c =
    λ t. c.loop-member.invariant
    (above_none c.args.instance c.loop-member.member-index c.args.members.now c.loop-member-test.false)

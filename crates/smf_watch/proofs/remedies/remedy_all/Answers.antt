use Rattle.smf_watch.proofs.FaultExits.{passed_on}
use Rattle.smf_watch.proofs.Remedied.{none_done, one_done, some_done, still_done}
use Rattle.smf_watch.proofs.remedies.remedy_all.Goals as goal

pub loop-one-init : goal.loop-one-init
loop-one-init g c = none_done _ _

pub loop-one-preserved : goal.loop-one-preserved
loop-one-preserved g c =
    one_done c.args.remedies.now c.loop-one.one-index _ _ _ _ c.loop-one-test.true c.in_ok-give_remedy.ensures.ok
    c.loop-one.invariant

pub returns-in_err-give_remedy-clause-later : goal.returns-in_err-give_remedy-clause-later
returns-in_err-give_remedy-clause-later g c =
    still_done _ _ _ _ _ c.loop-one.invariant c.in_err-give_remedy.ensures.err

pub returns-in_err-give_remedy-clause-err : goal.returns-in_err-give_remedy-clause-err
returns-in_err-give_remedy-clause-err g c =
    passed_on _ _ _ c.from_residual.ensures.1
    (some_done _ _ _ _ _ _ _ _ c.loop-one-test.true c.loop-one.invariant c.in_err-give_remedy.ensures.err
    c.in_err-give_remedy.ensures.fault)

pub returns-clause-later : goal.returns-clause-later
returns-clause-later g c = c.loop-one.invariant.later

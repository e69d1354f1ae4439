use Rattle.smf_watch.proofs.FaultExits.{passed_on}
use Rattle.smf_watch.proofs.Late.{ended_none, ended_on, ended_some, ended_still}
use Rattle.smf_watch.proofs.watch.time_out_all.Goals as goal

pub loop-due-init : goal.loop-due-init
loop-due-init g c = ended_none _ _ _

pub loop-due-preserved : goal.loop-due-preserved
loop-due-preserved g c =
    ended_on c.args.now c.args.dues.now c.loop-due.due-index c.due-item.result _ _ _ _ _ c.loop-due-test.true
    c.due-item.is c.in_ok-did.ensures.did c.in_ok-did.ensures.ok c.loop-due.invariant

pub returns-in_err-did-clause-later : goal.returns-in_err-did-clause-later
returns-in_err-did-clause-later g c = ended_still _ _ _ _ _ _ _ c.loop-due.invariant c.in_err-did.ensures.err

pub returns-in_err-did-clause-err : goal.returns-in_err-did-clause-err
returns-in_err-did-clause-err g c =
    passed_on _ _ _ c.from_residual.ensures.1
    (ended_some _ c.args.now c.args.dues.now c.loop-due.due-index c.due-item.result _ _ _ _ _ c.loop-due-test.true
    c.due-item.is c.loop-due.invariant c.in_err-did.ensures.err c.in_err-did.ensures.fault)

pub returns-clause-later : goal.returns-clause-later
returns-clause-later g c = c.loop-due.invariant.later

use Rattle.smf_engine.proofs.Coverage.{judged_put, judged_without}
use Rattle.smf_engine.proofs.looked.judge.Goals as goal

pub returns-in_ok-put : goal.returns-in_ok-put
returns-in_ok-put c =
    judged_put c.args.view.now.items c.args.instance c.args.decided.now c.put.new.self c.in_ok-put.ensures.ok

pub returns-else-branch : goal.returns-else-branch
returns-else-branch c =
    judged_without c.args.view.now.items c.args.instance c.args.decided.now c.remove.new.self c.remove.ensures
    (c.in_ok-may_order.ensures c.if-branch.false)

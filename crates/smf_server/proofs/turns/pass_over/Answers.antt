use Rattle.smf_server.specs.Turns.{between}
use Rattle.smf_server.proofs.Lasting.{lasts_same, lasts_then}
use Rattle.smf_server.proofs.TurnSteps.{request_over, tick_over}
use Rattle.smf_server.proofs.turns.pass_over.Goals as goal

pub returns-in-Tick-clause-turned : goal.returns-in-Tick-clause-turned
returns-in-Tick-clause-turned g c =
    tick_over g.K.Kids.skills (g.T.Timer.says c.args._timer.now) g.J.Journal.write_fails _ _
    (between g.K.Kids.ledger g.K.Kids.failures c.args.server.now) c.in-Tick.ensures.passed

pub returns-in-Request-clause-turned : goal.returns-in-Request-clause-turned
returns-in-Request-clause-turned g c =
    request_over g.K.Kids.skills (g.T.Timer.says c.args._timer.now) g.J.Journal.write_fails _ _ _ _
    (between g.K.Kids.ledger g.K.Kids.failures c.args.server.now) c.in-Request.ensures.passed
    (rw c.new.ensures.items at c.reply_fault.ensures.told)

pub returns-in-Tick-clause-lasts : goal.returns-in-Tick-clause-lasts
returns-in-Tick-clause-lasts g c = lasts_same _ _ c.in-Tick.ensures.leaves

pub returns-in-Request-clause-lasts : goal.returns-in-Request-clause-lasts
returns-in-Request-clause-lasts g c = lasts_then _ _ _ (lasts_same _ _ c.in-Request.ensures.leaves) c.reply_fault.ensures.lasts

pub returns-in-End-clause-lasts : goal.returns-in-End-clause-lasts
returns-in-End-clause-lasts g c = lasts_same _ _ c.in-End.ensures.leaves

pub returns-in-Leave-clause-lasts : goal.returns-in-Leave-clause-lasts
returns-in-Leave-clause-lasts g c = lasts_same _ _ c.in-Leave.ensures.leaves

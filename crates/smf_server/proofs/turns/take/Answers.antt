use Rattle.smf_server.specs.Turns.{between}
use Rattle.smf_server.proofs.TurnSteps.{failed_busy}
use Rattle.smf_server.proofs.turns.take.Goals as goal

pub returns-in-Err-clause-turned : goal.returns-in-Err-clause-turned
returns-in-Err-clause-turned g c =
    failed_busy g.K.Kids.skills (g.T.Timer.says c.args.timer.now) g.J.Journal.write_fails _ _ _ _
    (between g.K.Kids.ledger g.K.Kids.failures c.do_next-how.new.server) c.in-Err.ensures.err

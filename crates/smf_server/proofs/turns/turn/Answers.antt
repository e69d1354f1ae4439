use Rattle.smf_server.specs.Turns.{between}
use Rattle.smf_server.proofs.TurnSteps.{taken_told, taken_untold}
use Rattle.smf_server.proofs.turns.turn.Goals as goal

pub returns-in-Ok-clause-turned : goal.returns-in-Ok-clause-turned
returns-in-Ok-clause-turned g c =
    taken_told g.K.Kids.skills _ g.J.Journal.write_fails _ _ _ _ _ _
    (between g.K.Kids.ledger g.K.Kids.failures c.args.server.now)
    (record (between g.K.Kids.ledger g.K.Kids.failures c.args.server.now) { noted = c.tell.new.self.size })
    (between g.K.Kids.ledger g.K.Kids.failures c.take.new.server) c.in-Ok.ensures.told c.in-Ok.ensures.noted
    c.take.ensures.turned

pub returns-in-Err-clause-turned : goal.returns-in-Err-clause-turned
returns-in-Err-clause-turned g c =
    taken_untold g.K.Kids.skills _ g.J.Journal.write_fails _ _ _ _ _
    (between g.K.Kids.ledger g.K.Kids.failures c.args.server.now)
    (record (between g.K.Kids.ledger g.K.Kids.failures c.args.server.now) { noted = c.tell.new.self.size })
    (between g.K.Kids.ledger g.K.Kids.failures c.pass_over-onward.new.server) c.in-Err.ensures.fault c.in-Err.ensures.kept
    c.pass_over-onward.ensures.turned

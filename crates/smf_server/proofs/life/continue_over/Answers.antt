use Rattle.smf_server.proofs.Continuing.{found_agrees}
use Rattle.smf_server.proofs.life.continue_over.Goals as goal

pub returns-in-Ok-continued-clause-agrees : goal.returns-in-Ok-continued-clause-agrees
returns-in-Ok-continued-clause-agrees g c = λ same.
    found_agrees c.args.repository.held c.args.last c.args.found.now (g.K.Kids.ledger c.args.kids) c.in-Ok-continued.ensures.fit same

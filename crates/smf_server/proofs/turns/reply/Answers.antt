use Rattle.smf_server.proofs.Lasting.{reply_lasts}
use Rattle.smf_server.proofs.turns.reply.Goals as goal

pub returns-clause-lasts : goal.returns-clause-lasts
returns-clause-lasts g c =
    reply_lasts _ _ c.repository-repository.result.now.held
    (λ found. g.J.Journal.is_sound c.repository-repository.result.now.journal
    × g.J.Journal.could c.repository-repository.result.now.journal found)
    c.reply.ensures.leaves
    (λ found may. (rw c.journal-journal.ensures.same at c.journal-journal.ensures.settled) may.0 found may.1)

use Rattle.smf_server.specs.Turns.{between}
use Rattle.smf_server.proofs.life.live.Goals as goal

pub returns-clause-lived : goal.returns-clause-lived
returns-clause-lived g c =
    record {
      last = between g.K.Kids.ledger g.K.Kids.failures c.stay-how.new.server;
      stayed = c.stay-how.ensures.stayed;
      kept = rw c.into_repository.ensures at c.into_journal.ensures.stands;
      safe = c.stay-how.ensures.safe;
      leads = c.stay-how.ensures.leads;
      ends = c.end_or_leave-left.ensures;
    }

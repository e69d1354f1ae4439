use Rattle.smf_restarter.proofs.Judgments.{but_run}
use Rattle.smf_restarter.proofs.restarter.put_run.Goals as goal

pub judge-requires-clause-others : goal.judge-requires-clause-others
judge-requires-clause-others c = rw c.put.ensures.put (but_run _ _ _ _ c.requires.watched)

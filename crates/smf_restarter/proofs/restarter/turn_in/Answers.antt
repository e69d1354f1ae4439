use Rattle.std.proofs.Common.{refl}
use Rattle.smf_restarter.proofs.Judgments.{but_turned}
use Rattle.smf_restarter.proofs.restarter.turn_in.Goals as goal

pub judge-requires-clause-others : goal.judge-requires-clause-others
judge-requires-clause-others c = rw c.amend.ensures.amend (but_turned _ _ _ _ _ (λ i. refl) c.requires.watched)

use Rattle.smf_restarter.proofs.Judgments.{forgotten_again}
use Rattle.smf_restarter.proofs.restarter.forget_in.Goals as goal

pub returns-in-Some-clause-watched : goal.returns-in-Some-clause-watched
returns-in-Some-clause-watched c =
    rw (c.remove.ensures.removed, c.remove-in-Some.ensures.removed) (forgotten_again _ _ _ _ c.requires)

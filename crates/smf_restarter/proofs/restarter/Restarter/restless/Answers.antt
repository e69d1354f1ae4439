use Rattle.std.proofs.Common.{◌∙◌, ap}
use Rattle.smf_restarter.specs.Knowledge.{Kept}
use Rattle.smf_restarter.specs.Watched.{restless}
use Rattle.smf_restarter.proofs.RestlessList.{numbers_are}
use Rattle.smf_restarter.proofs.restarter.Restarter.restless.Goals as goal

pub returns-clause-numbers : goal.returns-clause-numbers
returns-clause-numbers c =
    c.as_slice.ensures.all
    ∙ numbers_are _ _ c.self.invariant.watched c.as_slice.ensures.rises
    (c.as_slice-instances.ensures.rises, c.as_slice-runs.ensures.rises)
    ∙ ap (λ (v : Kept). restless v.known) c.self.view_is

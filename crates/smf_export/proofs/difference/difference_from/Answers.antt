use Rattle.std.proofs.Common.{sym}
use Rattle.smf_export.specs.Choices.{is_chosen}
use Rattle.smf_export.specs.Turns.{services_asked}
use Rattle.smf_export.specs.declared.comparison.Extent.TheVariants.{Persistent}
use Rattle.smf_export.proofs.Tried.{holds_by}
use Rattle.smf_export.proofs.difference.difference_from.Goals as goal

pub returns-clause-same : goal.returns-clause-same
returns-clause-same c =
    λ h. c.difference.ensures.same
    (holds_by Persistent (services_asked c.args.is_exact c.args.asked.now) (is_chosen c.in_ok-choice.choice)
    c.args.before.now c.args.asked.now (λ name. sym (c.in_ok-choice.ensures name)) h)

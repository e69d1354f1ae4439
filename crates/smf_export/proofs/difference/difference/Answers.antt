use Rattle.std.proofs.Common.{◌∙◌}
use Rattle.smf_export.specs.Choices.{is_chosen}
use Rattle.smf_export.proofs.Tried.{none_needed}
use Rattle.smf_export.proofs.difference.difference.Goals as goal

pub returns-then-branch-clause-turns : goal.returns-then-branch-clause-turns
returns-then-branch-clause-turns c =
    none_needed (is_chosen c.args.choice.now) c.args.before.now c.args.asked.now c.from_string.result
    (c.from_string.ensures ∙ c.new.ensures.bytes) (c.in_ok-holds_asked.ensures.0 c.if-branch.true)

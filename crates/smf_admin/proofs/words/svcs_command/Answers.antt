use Rattle.std.proofs.Common.{◌∙◌, ap₂}
use Rattle.clap.specs.Words.{with_rule}
use Rattle.smf_admin.specs.Words.{svcs_app}
use Rattle.smf_admin.proofs.words.svcs_command.Goals as goal

pub returns : goal.returns
unfolding svcs_app
returns c =
    c.in_ok-command.ensures.shape c.operands.ensures.local
    ∙ ap₂ with_rule (c.in_ok-arg-4.ensures.shape c.flag-4.ensures.local
    ∙ ap₂ with_rule (c.in_ok-arg-3.ensures.shape c.flag-3.ensures.local
    ∙ ap₂ with_rule (c.in_ok-arg-2.ensures.shape c.flag-2.ensures.local
    ∙ ap₂ with_rule (c.in_ok-arg.ensures.shape c.flag.ensures.local
    ∙ ap₂ with_rule c.no_flags.ensures c.flag.ensures.rule) c.flag-2.ensures.rule) c.flag-3.ensures.rule)
    c.flag-4.ensures.rule)
    c.operands.ensures.rule

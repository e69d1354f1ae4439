use Rattle.std.proofs.Common.{◌∙◌, ap, ap₂}
use Rattle.clap.specs.Words.{App, with_subcommand}
use Rattle.smf_program.specs.Words.{smf_app}
use Rattle.smf_program.proofs.words.smf_command.Goals as goal

pub returns : goal.returns
unfolding smf_app
returns c =
    c.in_ok-command.ensures.shape c.in_ok-ask.ensures.local
    ∙ ap₂ with_subcommand (c.in_ok-with_replay.ensures.shape c.in_ok-replay.ensures.local
    ∙ ap₂ with_subcommand (c.in_ok-with_audit.ensures.shape c.in_ok-audit.ensures.local
    ∙ ap₂ with_subcommand (c.in_ok-with_metrics.ensures.shape c.in_ok-metrics.ensures.local
    ∙ ap₂ with_subcommand (c.in_ok-with_backup.ensures.shape c.in_ok-backup.ensures.local
    ∙ ap₂ with_subcommand (c.in_ok-with_diff.ensures.shape c.in_ok-diff.ensures.local
    ∙ ap₂ with_subcommand (c.in_ok-with_export.ensures.shape c.in_ok-export.ensures.local
    ∙ ap₂ with_subcommand (c.in_ok-with_compile.ensures.shape c.in_ok-compile.ensures.local
    ∙ ap₂ with_subcommand c.in_ok-asking.ensures (ap (λ (a : App). a.top) c.in_ok-compile.ensures.app))
    (ap (λ (a : App). a.top) c.in_ok-export.ensures.app))
    (ap (λ (a : App). a.top) c.in_ok-diff.ensures.app)) (ap (λ (a : App). a.top) c.in_ok-backup.ensures.app))
    (ap (λ (a : App). a.top) c.in_ok-metrics.ensures.app))
    (ap (λ (a : App). a.top) c.in_ok-audit.ensures.app))
    (ap (λ (a : App). a.top) c.in_ok-replay.ensures.app))
    (ap (λ (a : App). a.top) c.in_ok-ask.ensures.app)

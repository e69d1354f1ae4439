use Rattle.std.proofs.Common.{◌∙◌, ap, ap₂}
use Rattle.clap.specs.Words.{App, with_subcommand}
use Rattle.smf_program.proofs.words.asking_command.Goals as goal

pub returns : goal.returns
returns c =
    c.in_ok-command.ensures.shape c.in_ok-plan_stop.ensures.local
    ∙ ap₂ with_subcommand (c.in_ok-with_prop.ensures.shape c.in_ok-prop.ensures.local
    ∙ ap₂ with_subcommand (c.in_ok-with_show.ensures.shape c.in_ok-show.ensures.local
    ∙ ap₂ with_subcommand (c.in_ok-with_check.ensures.shape c.in_ok-check.ensures.local
    ∙ ap₂ with_subcommand (c.in_ok-with_why.ensures.shape c.in_ok-why.ensures.local
    ∙ ap₂ with_subcommand c.in_ok-running.ensures (ap (λ (a : App). a.top) c.in_ok-why.ensures.app))
    (ap (λ (a : App). a.top) c.in_ok-check.ensures.app))
    (ap (λ (a : App). a.top) c.in_ok-show.ensures.app)) (ap (λ (a : App). a.top) c.in_ok-prop.ensures.app))
    (ap (λ (a : App). a.top) c.in_ok-plan_stop.ensures.app)

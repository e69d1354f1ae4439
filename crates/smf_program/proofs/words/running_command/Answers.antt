use Rattle.std.proofs.Common.{◌∙◌, ap, ap₂}
use Rattle.clap.specs.Words.{App, with_subcommand}
use Rattle.smf_program.proofs.words.running_command.Goals as goal

pub returns : goal.returns
returns c =
    c.in_ok-command.ensures.shape c.in_ok-serve.ensures.local
    ∙ ap₂ with_subcommand (c.in_ok-with_cfg.ensures.shape c.in_ok-cfg.ensures.local
    ∙ ap₂ with_subcommand (c.in_ok-with_run.ensures.shape c.in_ok-run.ensures.local
    ∙ ap₂ with_subcommand (c.in_ok-with_sim.ensures.shape c.in_ok-sim.ensures.local
    ∙ ap₂ with_subcommand c.bare_command.ensures (ap (λ (a : App). a.top) c.in_ok-sim.ensures.app))
    (ap (λ (a : App). a.top) c.in_ok-run.ensures.app))
    (ap (λ (a : App). a.top) c.in_ok-cfg.ensures.app)) (ap (λ (a : App). a.top) c.in_ok-serve.ensures.app)

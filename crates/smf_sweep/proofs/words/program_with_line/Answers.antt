use Rattle.std.proofs.Common.{◌∙◌}
use Rattle.smf_sweep.proofs.words.program_with_line.Goals as goal

pub returns-clause-alone : goal.returns-clause-alone
returns-clause-alone g c name other =
    c.in_ok-copy-4.ensures.others name other.not_restarter
    ∙ c.in_ok-copy-3.ensures.others name other.not_method
    ∙ c.in_ok-copy-2.ensures.others name other.not_fmri
    ∙ c.in_ok-copy.ensures.others name other.not_path
    ∙ c.in_ok-add_words.ensures.env.1 name
    ∙ c.in_ok-program.ensures.vars name

use Rattle.smf_script.proofs.ScriptAgreement.{end_agrees, end_dropped}
use Rattle.smf_script.proofs.script.run_script.Goals as goal

pub returns-clause-agrees : goal.returns-clause-agrees
returns-clause-agrees g c =
    λ b. end_agrees b g.K.Kids.skills _ _ _ _ _ _ _
    _ c.trail-begun.ensures.reached c.do_lines-end.ensures.ran

pub returns-clause-dropped : goal.returns-clause-dropped
returns-clause-dropped g c =
    λ b. end_dropped b g.K.Kids.skills g.J.Journal.write_fails _ _ _ _ _ _ _
    _ c.trail-begun.ensures.reached
    c.do_lines-end.ensures.err

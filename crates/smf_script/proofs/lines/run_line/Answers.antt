use Rattle.std.proofs.Common.{refl}
use Rattle.smf_script.proofs.Effects.{unread}
use Rattle.smf_script.proofs.May.{passed_on}
use Rattle.smf_script.proofs.lines.run_line.Goals as goal

pub returns-in_err-request-clause-err : goal.returns-in_err-request-clause-err
returns-in_err-request-clause-err g c =
    passed_on _ _ _ c.from_residual.ensures.1 (unread g.K.Kids.skills g.J.Journal.write_fails _ _ _ _ refl)

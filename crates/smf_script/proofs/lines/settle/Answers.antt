use Rattle.smf_script.proofs.May.{passed_on}
use Rattle.smf_script.proofs.RoundFaults.{may_settle}
use Rattle.smf_script.proofs.lines.settle.Goals as goal

pub returns-in_err-how-clause-fault : goal.returns-in_err-how-clause-fault
returns-in_err-how-clause-fault g c =
    passed_on _ _ _ c.from_residual.ensures.1 (may_settle _ g.J.Journal.write_fails _ _ _
    _ c.in_err-how.ensures.err)

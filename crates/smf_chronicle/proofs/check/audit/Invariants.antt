use Rattle.smf_chronicle.proofs.Passed.{IsPassed}
use Rattle.smf_chronicle.proofs.check.audit.Given as goal

abbrev pub invariant-loop-place : goal.invariant-loop-place
invariant-loop-place l = IsPassed l.tables l.entries l.place

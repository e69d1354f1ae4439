use Rattle.std.proofs.Common.{◌≡◌, drop}
use Rattle.std.specs.Prelude.{find}
use Rattle.smf_restarter.specs.Runs.{is_orphan}
use Rattle.smf_restarter.proofs.runs.orphan_among.Given as goal

abbrev pub invariant-loop-run : goal.invariant-loop-run
invariant-loop-run l = find (is_orphan l.instance) (drop l.run-index l.runs) ≡ find (is_orphan l.instance) l.runs

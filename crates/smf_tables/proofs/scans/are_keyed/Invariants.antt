use Rattle.std.proofs.Common.{take}
use Rattle.smf_tables.proofs.Rowed.{RisesTo}
use Rattle.smf_tables.proofs.scans.are_keyed.Given as goal

abbrev pub invariant-loop-row : goal.invariant-loop-row
invariant-loop-row l = RisesTo l.last (take l.row-index l.rows)

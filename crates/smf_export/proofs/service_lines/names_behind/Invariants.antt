use Rattle.std.proofs.Common.{◌≡◌}
use Rattle.smf_export.proofs.service_lines.names_behind.Given as goal

abbrev pub invariant-loop-entry : goal.invariant-loop-entry
invariant-loop-entry l = l.count ≡ l.entry-index

use Rattle.std.proofs.Common.{◌≡◌, ◌++◌, drop}
use Rattle.std.specs.Prelude.{map}
use Rattle.smf_restarter.specs.Answers.{with_phase_of_row}
use Rattle.smf_restarter.proofs.answers.all_phased.Given as goal

abbrev pub invariant-loop-known : goal.invariant-loop-known
invariant-loop-known l = l.all.items ++ map with_phase_of_row (drop l.known-index l.instances)
    ≡ map with_phase_of_row l.instances

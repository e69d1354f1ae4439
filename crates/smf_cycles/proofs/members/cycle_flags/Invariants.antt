use Rattle.smf_cycles.specs.Components.{FlagsSay}
use Rattle.smf_cycles.specs.Paths.{IsOnCycle}
use Rattle.smf_cycles.proofs.members.cycle_flags.Given as goal

abbrev pub invariant-loop-place : goal.invariant-loop-place
invariant-loop-place l = FlagsSay (IsOnCycle l.edges) l.flags.items

use Rattle.std.proofs.Common.{slice_index}
use Rattle.smf_cycles.specs.Components.{Comes, FlagsSay}
use Rattle.smf_cycles.proofs.members.led_back.Given as goal

abbrev pub invariant-loop-place : goal.invariant-loop-place
invariant-loop-place l = FlagsSay (λ a. Comes l.edges a (slice_index l.roots a)) l.flags.items

use Rattle.std.proofs.Common.{◌≡◌, slice_index}
use Rattle.smf_cycles.specs.Components.{FlagsSay}
use Rattle.smf_cycles.proofs.members.roots_alone.Given as goal

abbrev pub invariant-loop-place : goal.invariant-loop-place
invariant-loop-place l = FlagsSay (λ a. slice_index l.roots a ≡ a) l.flags.items

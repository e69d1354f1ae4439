use Rattle.std.proofs.Common.{◌≡◌, ℕ, ◌<◌, length}
use Rattle.std.specs.Prelude.{slice_index}
use Rattle.smf_links.specs.Wires.{IsTallied}
use Rattle.smf_links.proofs.kept.clear.Given as goal

abbrev pub invariant-loop-place : goal.invariant-loop-place
invariant-loop-place l = record {
  size : length l.stamps ≡ length l.fn.stamps;
  none : (k : ℕ) → k < l.place → slice_index l.stamps k ≡ 0;
  tallied : IsTallied l.nodes l.stamps l.entries l.tallies;
}

use Rattle.std.proofs.Common.{◌≡◌, ◌≤◌, ℕ, length}
use Rattle.std.specs.Vec.{vec_capacity}
use Rattle.smf_links.specs.Blockage.{IsOut}
use Rattle.smf_links.proofs.kept.add_all.Given as goal

abbrev pub invariant-loop-place : goal.invariant-loop-place
invariant-loop-place l = record {
  size : length l.work.items ≡ l.place;
  each : (a : ℕ) → IsOut a l.work.items → l.place ≤ a;
  room : vec_capacity l.fn.work ≤ vec_capacity l.work;
}

use Rattle.std.proofs.Common.{◌≡◌, ℕ, ◌<◌, true, slice_index, nat_le}
use Rattle.std.specs.List.{list_all}
use Rattle.smf_cycles.specs.Paths.{edges_at}
use Rattle.smf_cycles.proofs.ranks.never_rises.Given as goal

abbrev pub invariant-loop-place : goal.invariant-loop-place
invariant-loop-place l =
    (k : ℕ) → k < l.place
    → list_all (λ q. nat_le (slice_index l.ranks q) (slice_index l.ranks k)) (edges_at l.edges k) ≡ true

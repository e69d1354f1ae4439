use Rattle.std.proofs.Common.{◌≡◌, ◌↔◌, ℕ, ◌<◌, IsTrue, length}
use Rattle.smf_cycles.specs.Paths.{IsOnCycle, flag_at}
use Rattle.smf_cycles.proofs.cycles.places_on_cycles.Given as goal

abbrev pub invariant-loop-place : goal.invariant-loop-place
invariant-loop-place l = record {
  as_long : length l.flags.items ≡ l.place;
  exact : (a : ℕ) → a < l.place → IsTrue (flag_at l.flags.items a) ↔ IsOnCycle l.edges a;
}

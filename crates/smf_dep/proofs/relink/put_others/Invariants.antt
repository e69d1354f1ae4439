use Rattle.std.proofs.Common.{◌≡◌, ◌≤◌, ◌<◌, ℕ, length}
use Rattle.std.specs.Vec.{vec_capacity}
use Rattle.smf_links.specs.Blockage.{IsOut}
use Rattle.smf_dep.specs.Places.{flag_at}
use Rattle.smf_dep.proofs.relink.put_others.Given as goal

abbrev pub invariant-loop-place : goal.invariant-loop-place
invariant-loop-place l =
    record {
      stays : (a : ℕ) → IsOut a l.touched.items → a < l.place → flag_at l.after a ≡ flag_at l.before a;
      size : length l.touched.items ≤ l.place;
      room : vec_capacity l.fn.touched ≤ vec_capacity l.touched;
    }

use Rattle.std.proofs.Common.{◌≡◌, ◌++◌, map, drop}
use Rattle.std.specs.Prelude.{filter}
use Rattle.std.specs.Vec.Iter.{into_iter_items}
use Rattle.smf_stops.specs.Stops.{free, is_free, is_kept, rest}
use Rattle.smf_stops.proofs.batches.take_free.Given as goal

abbrev pub invariant-loop-member : goal.invariant-loop-member
invariant-loop-member l =
    record {
      flagged : drop l.place l.flags.items ≡ map (is_free l.fn.left) (into_iter_items l.member-iterator);
      taken : l.batch ++ filter (is_free l.fn.left) (into_iter_items l.member-iterator) ≡ free l.fn.left;
      kept : l.left ++ filter (is_kept l.fn.left) (into_iter_items l.member-iterator) ≡ rest l.fn.left;
    }

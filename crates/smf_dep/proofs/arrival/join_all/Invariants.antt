use Rattle.std.proofs.Common.{◌≡◌, length}
use Rattle.std.specs.Vec.Iter.{into_iter_items}
use Rattle.smf_dep.proofs.Joined.{HaveCome}
use Rattle.smf_dep.proofs.arrival.join_all.Given as goal

abbrev pub invariant-loop-member : goal.invariant-loop-member
invariant-loop-member l =
    record {
      count : l.count ≡ length l.fn.members.items;
      came : HaveCome l.fn.arrivals.items (into_iter_items l.member-iterator) l.fn.members.items l.members.items
          l.fn.kept l.kept l.fn.cycles.edges.items l.cycles.edges.items l.fn.cycles.flags.items l.cycles.flags.items;
    }

use Rattle.std.proofs.Common.{◌≡◌}
use Rattle.std.specs.Vec.Iter.{into_iter_items}
use Rattle.smf_dep.specs.Updates.{with_placed}
use Rattle.smf_dep.proofs.relink.set_members.Given as goal

abbrev pub invariant-loop-one : goal.invariant-loop-one
invariant-loop-one l = with_placed (into_iter_items l.one-iterator) l.members.items
    ≡ with_placed l.fn.placed.items l.fn.members.items

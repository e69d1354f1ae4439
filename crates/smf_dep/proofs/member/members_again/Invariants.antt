use Rattle.std.proofs.Common.{◌≡◌, ◌++◌, map, drop}
use Rattle.std.specs.List.{AllZip}
use Rattle.std.specs.Vec.Iter.{into_iter_items}
use Rattle.smf_dep.specs.Members.{IsOfItem, member_of}
use Rattle.smf_dep.proofs.member.members_again.Given as goal

abbrev pub invariant-loop-item : goal.invariant-loop-item
invariant-loop-item l =
    record {
      read : l.all ++ map member_of (drop l.item-index l.items) ≡ map member_of l.items;
      kept : AllZip IsOfItem (drop l.item-index l.items) (into_iter_items l.kept);
    }

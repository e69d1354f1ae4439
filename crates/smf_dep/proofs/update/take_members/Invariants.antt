use Rattle.std.proofs.Common.{◌≡◌, ◌≤◌, length}
use Rattle.std.specs.Vec.{vec_capacity}
use Rattle.std.specs.Vec.Iter.{into_iter_items}
use Rattle.smf_fmri.specs.ByKey.{Rises, put_all}
use Rattle.smf_dep.specs.Members.{by_member}
use Rattle.smf_dep.specs.Places.{nodes_of}
use Rattle.smf_dep.specs.Updates.{AllFit, Stays}
use Rattle.smf_dep.proofs.update.take_members.Given as goal

abbrev pub invariant-loop-member : goal.invariant-loop-member
invariant-loop-member l =
    record {
      rest : put_all by_member (into_iter_items l.member-iterator) l.members.items
          ≡ put_all by_member l.fn.successors.items l.fn.members.items;
      fit : AllFit (into_iter_items l.member-iterator) l.members.items;
      rises : Rises by_member l.members.items;
      linked : l.kept ≡ nodes_of l.members.items;
      room : length l.members.items ≤ vec_capacity l.touched;
      stays : Stays l.fn.members.items l.members.items l.fn.touched.items l.touched.items;
    }

use Rattle.std.proofs.Common.{◌≡◌, ◌<◌, ◌≤◌, length}
use Rattle.std.specs.Vec.{vec_capacity}
use Rattle.std.specs.Vec.Iter.{into_iter_items}
use Rattle.smf_links.specs.Relinks.{ArePrepared, AreWithin, relinks_of, with_relinks}
use Rattle.smf_links.specs.Stamps.{IsKept}
use Rattle.smf_links.specs.Wires.{IsTallied}
use Rattle.smf_links.proofs.Turns.{LeadsOn}
use Rattle.smf_links.proofs.kept.relink_all.Given as goal

abbrev pub invariant-loop-placed : goal.invariant-loop-placed
invariant-loop-placed l =
    let left = into_iter_items l.placed-iterator in
    record {
      next : 0 < l.free;
      within : AreWithin (length l.nodes.items) (relinks_of left);
      room : length l.nodes.items ≤ vec_capacity l.touched;
      kept : IsKept l.nodes.items l.stamps l.citing l.free (vec_capacity l.work);
      tallied : IsTallied l.nodes.items l.stamps l.entries l.tallies;
      prepared : ArePrepared l.citing l.entries left;
      nodes : with_relinks l.nodes.items (relinks_of left)
          ≡ with_relinks l.fn.nodes.items (relinks_of l.fn.all.items);
      leads : LeadsOn l.fn.nodes.items l.nodes.items (relinks_of l.fn.all.items) (relinks_of left)
          l.fn.touched.items l.touched.items;
      capacity : vec_capacity l.fn.touched ≤ vec_capacity l.touched;
    }

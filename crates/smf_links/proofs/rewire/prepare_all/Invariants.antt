use Rattle.std.proofs.Common.{◌≡◌, ◌+◌, ◌*◌, ◌≤◌, ◌++◌, length}
use Rattle.std.specs.Vec.{vec_capacity}
use Rattle.std.specs.Vec.Iter.{into_iter_items}
use Rattle.smf_links.specs.Relinks.{ArePrepared, relinks_of}
use Rattle.smf_links.specs.Stamps.{KeepsPlaces, total}
use Rattle.smf_links.specs.Wires.{KeepsSpots}
use Rattle.smf_links.proofs.rewire.prepare_all.Given as goal

abbrev pub invariant-loop-relink : goal.invariant-loop-relink
invariant-loop-relink l = record {
  citing : KeepsPlaces l.fn.citing.items l.citing.items;
  space : length l.nodes + 1 + 3 * total l.fn.citing.items ≤ vec_capacity l.fn.work
      → length l.nodes + 1 + 3 * total l.citing.items ≤ vec_capacity l.work;
  note_count : total l.citing.items ≤ l.note_count;
  entries : KeepsSpots l.fn.entries.items l.entries.items;
  prepared : ArePrepared l.citing.items l.entries.items l.all.items;
  same : relinks_of l.all.items ++ into_iter_items l.relink-iterator ≡ l.fn.relinks.items;
}

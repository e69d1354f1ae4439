use Rattle.std.proofs.Common.{◌≤◌, take}
use Rattle.std.specs.Vec.{vec_capacity}
use Rattle.smf_links.specs.Stamps.{Adds}
use Rattle.smf_links.proofs.stamps.add_each.Given as goal

abbrev pub invariant-loop-place : goal.invariant-loop-place
invariant-loop-place l = record {
  adds : Adds l.next (take l.place-index l.places) l.fn.work.items l.work.items;
  room : vec_capacity l.fn.work ≤ vec_capacity l.work;
}

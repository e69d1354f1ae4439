use Rattle.std.proofs.Common.{◌+◌, ◌-◌, ◌≤◌, length}
use Rattle.std.specs.Vec.{vec_capacity}
use Rattle.smf_links.specs.Stamps.{IsLoosening, IsSpreading, Spreads}
use Rattle.smf_links.specs.Wires.{IsTallied}
use Rattle.smf_links.proofs.stamps.settle.Given as goal

abbrev pub invariant-loosening : goal.invariant-loosening
invariant-loosening l = record {
  loose : IsLoosening l.nodes l.citing l.base (vec_capacity l.fn.work) l.stamps l.work.items l.at;
  spread : Spreads l.nodes l.citing l.fn.stamps l.fn.work.items l.stamps l.work.items;
  room : vec_capacity l.fn.work ≤ vec_capacity l.work;
  tallied : IsTallied l.nodes l.stamps l.entries l.tallies;
}

abbrev pub decreases-loosening : goal.decreases-loosening
decreases-loosening l = vec_capacity l.fn.work - l.at

abbrev pub invariant-spreading : goal.invariant-spreading
invariant-spreading l = record {
  given : IsSpreading l.nodes l.citing (l.base + l.done) (vec_capacity l.fn.work) l.stamps l.work.items l.done;
  within : l.done ≤ length l.work.items;
  spread : Spreads l.nodes l.citing l.fn.stamps l.fn.work.items l.stamps l.work.items;
  room : vec_capacity l.fn.work ≤ vec_capacity l.work;
  tallied : IsTallied l.nodes l.stamps l.entries l.tallies;
}

abbrev pub decreases-spreading : goal.decreases-spreading
decreases-spreading l = vec_capacity l.fn.work - l.done

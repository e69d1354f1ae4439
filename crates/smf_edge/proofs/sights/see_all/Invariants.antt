use Rattle.std.proofs.Common.{◌≡◌, drop}
use Rattle.smf_edge.specs.Phases.{posts}
use Rattle.smf_edge.proofs.FollowedPlaces.{SeenUpTo}
use Rattle.smf_edge.proofs.sights.see_all.Given as goal

abbrev pub invariant-loop-kid : goal.invariant-loop-kid
invariant-loop-kid g l = record {
  same : posts l.kid-items ≡ posts l.initial.kid-items;
  left : drop l.kid-index l.kid-items ≡ drop l.kid-index l.initial.kid-items;
  none : g.C.Contracts.made l.contracts ≡ g.C.Contracts.made l.initial.contracts;
  seen : SeenUpTo g.C.Contracts.facts l.kid-index l.sight l.initial.kid-items;
}

use Rattle.std.proofs.Common.{◌≡◌, drop}
use Rattle.smf_edge.specs.Processes.{OneHasLeft, roles}
use Rattle.smf_edge.specs.Starts.{OnlyKills}
use Rattle.smf_edge.proofs.Places.{SeenUpTo}
use Rattle.smf_edge.proofs.child.see_all.Given as goal

abbrev pub invariant-loop-kid : goal.invariant-loop-kid
invariant-loop-kid g l = record {
  same : roles l.kid-items ≡ roles l.initial.kid-items;
  left : drop l.kid-index l.kid-items ≡ drop l.kid-index l.initial.kid-items;
  kills : OnlyKills (OneHasLeft g.R.System.facts l.initial.kid-items) (g.R.System.starts l.fn.system)
      (g.R.System.starts l.system);
  seen : SeenUpTo g.R.System.facts l.kid-index l.sight l.initial.kid-items;
}

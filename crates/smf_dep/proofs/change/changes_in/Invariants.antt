use Rattle.std.proofs.Common.{◌≡◌, ◌++◌, drop}
use Rattle.smf_dep.specs.Departures.{leavers, with_departures}
use Rattle.smf_dep.specs.Updates.{AreReady, with_placed}
use Rattle.smf_dep.proofs.change.changes_in.Given as goal

abbrev pub invariant-loop-change : goal.invariant-loop-change
invariant-loop-change l =
    record {
      ready : AreReady l.all.placed.items l.all.arrivals.items l.members;
      put : with_departures (drop l.change-index l.changes)
          (with_placed l.all.placed.items l.members ++ l.all.arrivals.items) ≡ with_departures l.changes l.members;
      left : l.all.leavers.items ++ leavers (drop l.change-index l.changes) ≡ leavers l.changes;
    }

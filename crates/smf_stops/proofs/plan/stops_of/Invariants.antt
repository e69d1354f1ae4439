use Rattle.std.proofs.Common.{◌≡◌, ◌++◌, map, drop}
use Rattle.smf_stops.specs.Plan.{stop_of}
use Rattle.smf_stops.proofs.plan.stops_of.Given as goal

abbrev pub invariant-loop-member : goal.invariant-loop-member
invariant-loop-member l = l.stops ++ map (stop_of l.limits l.view) (drop l.member-index l.members)
    ≡ map (stop_of l.limits l.view) l.members

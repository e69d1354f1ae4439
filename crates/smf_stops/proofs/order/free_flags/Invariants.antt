use Rattle.std.proofs.Common.{◌≡◌, ◌++◌, map, drop}
use Rattle.smf_stops.specs.Stops.{is_free}
use Rattle.smf_stops.proofs.order.free_flags.Given as goal

abbrev pub invariant-loop-member : goal.invariant-loop-member
invariant-loop-member l = l.flags.items ++ map (is_free l.members) (drop l.member-index l.members)
    ≡ map (is_free l.members) l.members

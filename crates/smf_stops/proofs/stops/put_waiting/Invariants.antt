use Rattle.std.proofs.Common.{◌≡◌, ◌++◌, map, drop}
use Rattle.std.specs.Prelude.{filter}
use Rattle.smf_stops.specs.Stops.{is_waiting, name_of}
use Rattle.smf_stops.proofs.stops.put_waiting.Given as goal

abbrev pub invariant-loop-member : goal.invariant-loop-member
invariant-loop-member l = l.names ++ map name_of (filter is_waiting (drop l.member-index l.members))
    ≡ l.fn.names ++ map name_of (filter is_waiting l.members)

use Rattle.std.proofs.Common.{◌≡◌, ◌++◌, map, drop}
use Rattle.std.specs.Prelude.{filter}
use Rattle.smf_stops.specs.Stops.{is_enabled, is_free, name_of}
use Rattle.smf_stops.proofs.stops.put_flagged.Given as goal

abbrev pub invariant-loop-member : goal.invariant-loop-member
invariant-loop-member l =
    record {
      at_index : l.place ≡ l.member-index;
      flagged : drop l.member-index l.flags ≡ map (is_free l.members) (drop l.member-index l.members);
      named : l.names ++ map name_of (filter is_enabled (filter (is_free l.members) (drop l.member-index l.members)))
          ≡ l.fn.names ++ map name_of (filter is_enabled (filter (is_free l.members) l.members));
    }

use Rattle.std.proofs.Common.{◌≡◌, ◌++◌, drop}
use Rattle.std.specs.Prelude.{flat_map}
use Rattle.smf_dep.specs.Members.{members}
use Rattle.smf_provenance.specs.Stopped.{stops_of_group}
use Rattle.smf_provenance.proofs.stop.all_stops.Given as goal

abbrev pub invariant-loop-group : goal.invariant-loop-group
invariant-loop-group l =
    l.all ++ flat_map (stops_of_group (members l.scene.items) l.base) (drop l.group-index l.groups)
    ≡ flat_map (stops_of_group (members l.scene.items) l.base) l.groups

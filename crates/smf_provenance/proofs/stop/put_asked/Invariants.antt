use Rattle.std.proofs.Common.{◌≡◌, ◌++◌, drop}
use Rattle.std.specs.Prelude.{flat_map}
use Rattle.smf_dep.specs.Members.{members}
use Rattle.smf_provenance.specs.Stopped.{asked_stops}
use Rattle.smf_provenance.proofs.stop.put_asked.Given as goal

abbrev pub invariant-loop-dependency : goal.invariant-loop-dependency
invariant-loop-dependency l =
    l.all ++ flat_map (asked_stops (members l.scene.items) l.base l.group) (drop l.dependency-index l.dependencies)
    ≡ l.fn.all ++ flat_map (asked_stops (members l.scene.items) l.base l.group) l.dependencies

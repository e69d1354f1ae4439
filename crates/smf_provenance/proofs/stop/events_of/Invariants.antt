use Rattle.std.proofs.Common.{◌≡◌, ◌++◌, drop}
use Rattle.std.specs.Prelude.{flat_map}
use Rattle.smf_dep.specs.Members.{members}
use Rattle.smf_provenance.specs.Stopped.{events_for}
use Rattle.smf_provenance.proofs.stop.events_of.Given as goal

abbrev pub invariant-loop-entity : goal.invariant-loop-entity
invariant-loop-entity l =
    l.all ++ flat_map (events_for (members l.scene.items) l.dependency l.base) (drop l.entity-index l.entity-items)
    ≡ flat_map (events_for (members l.scene.items) l.dependency l.base) l.entity-items

use Rattle.std.proofs.Common.{◌≡◌, ◌++◌, drop}
use Rattle.std.specs.Prelude.{flat_map}
use Rattle.smf_dep.specs.Members.{members}
use Rattle.smf_provenance.specs.Groups.{cited_for}
use Rattle.smf_provenance.proofs.scene.Scene.cited_by.Given as goal

abbrev pub invariant-loop-entity : goal.invariant-loop-entity
invariant-loop-entity l =
    l.all ++ flat_map (cited_for (members l.self.items)) (drop l.entity-index l.entity-items)
    ≡ flat_map (cited_for (members l.self.items)) l.entity-items

use Rattle.std.proofs.Common.{◌≡◌, ◌++◌, map, drop}
use Rattle.smf_dep.specs.Places.{places}
use Rattle.smf_dep.proofs.link.places_by_entity.Given as goal

abbrev pub invariant-loop-entity : goal.invariant-loop-entity
invariant-loop-entity l = l.cited ++ map (places l.names) (drop l.entity-index l.entities)
    ≡ map (places l.names) l.entities

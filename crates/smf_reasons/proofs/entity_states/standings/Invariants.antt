use Rattle.std.proofs.Common.{◌≡◌, ◌++◌, drop}
use Rattle.std.specs.List.{flat_map}
use Rattle.smf_reasons.specs.Reasons.{standings_if_unmet}
use Rattle.smf_reasons.proofs.entity_states.standings.Given as goal

abbrev pub invariant-loop-entity : goal.invariant-loop-entity
invariant-loop-entity l =
    l.all ++ flat_map (standings_if_unmet l.members l.dependency) (drop l.entity-index l.entity-items)
    ≡ flat_map (standings_if_unmet l.members l.dependency) l.entity-items

use Rattle.std.proofs.Common.{◌≡◌, ◌++◌, drop}
use Rattle.std.specs.List.{flat_map}
use Rattle.smf_reasons.specs.Flaws.{absent}
use Rattle.smf_reasons.proofs.absent.put_all_absent.Given as goal

abbrev pub invariant-loop-entity : goal.invariant-loop-entity
invariant-loop-entity l = l.all ++ flat_map (absent l.members) (drop l.entity-index l.entities)
    ≡ l.fn.all ++ flat_map (absent l.members) l.entities

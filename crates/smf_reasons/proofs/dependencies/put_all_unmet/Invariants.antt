use Rattle.std.proofs.Common.{◌≡◌, ◌++◌, drop}
use Rattle.std.specs.List.{flat_map}
use Rattle.smf_reasons.specs.Reasons.{group_met}
use Rattle.smf_reasons.proofs.dependencies.put_all_unmet.Given as goal

abbrev pub invariant-loop-dependency : goal.invariant-loop-dependency
invariant-loop-dependency l = l.all ++ flat_map (group_met l.members l.group) (drop l.dependency-index l.dependencies)
    ≡ l.fn.all ++ flat_map (group_met l.members l.group) l.dependencies

use Rattle.std.proofs.Common.{◌≡◌, ◌++◌, drop}
use Rattle.std.specs.List.{flat_map}
use Rattle.smf_reasons.specs.Flaws.{group_checked}
use Rattle.smf_reasons.proofs.absent.put_all_lost.Given as goal

abbrev pub invariant-loop-dependency : goal.invariant-loop-dependency
invariant-loop-dependency l =
    l.all ++ flat_map (group_checked l.members l.group) (drop l.dependency-index l.dependencies)
    ≡ l.fn.all ++ flat_map (group_checked l.members l.group) l.dependencies

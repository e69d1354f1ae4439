use Rattle.std.proofs.Common.{◌≡◌, ◌++◌, drop}
use Rattle.std.specs.List.{flat_map}
use Rattle.smf_reasons.specs.Reasons.{of_group}
use Rattle.smf_reasons.proofs.dependencies.put_groups.Given as goal

abbrev pub invariant-loop-group : goal.invariant-loop-group
invariant-loop-group l = l.all ++ flat_map (of_group l.members) (drop l.group-index l.groups)
    ≡ l.fn.all ++ flat_map (of_group l.members) l.groups

use Rattle.std.proofs.Common.{◌≡◌, ◌++◌, drop}
use Rattle.std.specs.List.{flat_map}
use Rattle.smf_reasons.specs.Flaws.{group_flaws}
use Rattle.smf_reasons.proofs.absent.put_groups_flaws.Given as goal

abbrev pub invariant-loop-group : goal.invariant-loop-group
invariant-loop-group l = l.all ++ flat_map (group_flaws l.members) (drop l.group-index l.groups)
    ≡ l.fn.all ++ flat_map (group_flaws l.members) l.groups

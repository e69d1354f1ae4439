use Rattle.std.proofs.Common.{◌≡◌, ◌++◌, drop}
use Rattle.std.specs.List.{flat_map}
use Rattle.smf_dep.specs.Members.{members}
use Rattle.smf_provenance.specs.Groups.{of_group}
use Rattle.smf_provenance.proofs.groups.put_groups.Given as goal

abbrev pub invariant-loop-group : goal.invariant-loop-group
invariant-loop-group l = l.all ++ flat_map (of_group (members l.scene.items)) (drop l.group-index l.groups)
    ≡ l.fn.all ++ flat_map (of_group (members l.scene.items)) l.groups

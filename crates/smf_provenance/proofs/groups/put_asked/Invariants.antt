use Rattle.std.proofs.Common.{◌≡◌, ◌++◌, drop, map, Some}
use Rattle.smf_dep.specs.Members.{members}
use Rattle.smf_provenance.specs.Groups.{group_told}
use Rattle.smf_provenance.proofs.groups.put_asked.Given as goal

abbrev pub invariant-loop-dependency : goal.invariant-loop-dependency
invariant-loop-dependency l =
    l.all ++ map (group_told (members l.scene.items) (Some l.group)) (drop l.dependency-index l.dependencies)
    ≡ l.fn.all ++ map (group_told (members l.scene.items) (Some l.group)) l.dependencies

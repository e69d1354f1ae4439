use Rattle.std.proofs.Common.{◌≡◌, ◌++◌, take, drop}
use Rattle.std.specs.List.{AllByRecursion, flat_map}
use Rattle.smf_value.specs.Body.{spelled_group, bytes_of_groups, IsWholeGroup}
use Rattle.smf_value.proofs.body.body_of.Given as goal

abbrev pub invariant-loop-group : goal.invariant-loop-group
invariant-loop-group l = record {
  put : l.out.items ++ flat_map spelled_group (drop l.group-index l.groups) ≡ bytes_of_groups l.groups;
  formed : AllByRecursion IsWholeGroup (take l.group-index l.groups);
}

use Rattle.std.proofs.Common.{◌≡◌, drop}
use Rattle.smf_dep.specs.Requirements.{behind, read_groups}
use Rattle.smf_dep.proofs.requirements.dependencies_of.Given as goal

abbrev pub invariant-loop-group : goal.invariant-loop-group
invariant-loop-group l = behind l.all (read_groups (drop l.group-index l.groups)) ≡ read_groups l.groups

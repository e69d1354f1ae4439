use Rattle.std.proofs.Common.{◌≡◌, ◌++◌, drop}
use Rattle.std.specs.List.{flat_map}
use Rattle.smf_reasons.specs.Hints.{program_list}
use Rattle.smf_reasons.proofs.hints.push_programs.Given as goal

abbrev pub invariant-loop-group : goal.invariant-loop-group
invariant-loop-group l =
    l.all ++ flat_map program_list (drop l.group-index l.groups) ≡ l.fn.all ++ flat_map program_list l.groups

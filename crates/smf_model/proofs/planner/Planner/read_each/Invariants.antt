use Rattle.std.proofs.Common.{◌≡◌, ◌++◌, map, drop}
use Rattle.smf_model.specs.Look.{bare, groups_of}
use Rattle.smf_model.specs.GeneralGroup.{current}
use Rattle.smf_model.proofs.planner.Planner.read_each.Given as goal

abbrev pub invariant-loop-entry : goal.invariant-loop-entry
invariant-loop-entry l =
    l.all.items ++ map (current (groups_of l.self)) (bare (drop l.entry-index l.entries))
    ≡ map (current (groups_of l.self)) (bare l.entries)

use Rattle.std.proofs.Common.{◌≡◌, ◌++◌, map, drop}
use Rattle.smf_model.specs.Look.{bare, instances}
use Rattle.smf_model.specs.Shown.{row_item}
use Rattle.smf_model.proofs.planner.Planner.row_items.Given as goal

abbrev pub invariant-loop-entry : goal.invariant-loop-entry
invariant-loop-entry l = l.all.items ++ map (row_item l.self) (bare (drop l.entry-index l.entries))
    ≡ map (row_item l.self) (instances l.self)

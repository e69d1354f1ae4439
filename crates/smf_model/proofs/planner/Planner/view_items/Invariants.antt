use Rattle.std.proofs.Common.{◌≡◌, ◌++◌, map, drop}
use Rattle.smf_model.specs.Look.{bare, instances}
use Rattle.smf_model.specs.Shown.{view_item}
use Rattle.smf_model.proofs.planner.Planner.view_items.Given as goal

abbrev pub invariant-loop-entry : goal.invariant-loop-entry
invariant-loop-entry l = l.all.items ++ map (view_item l.self) (bare (drop l.entry-index l.entries))
    ≡ map (view_item l.self) (instances l.self)

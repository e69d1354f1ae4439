use Rattle.std.proofs.Common.{◌≡◌, ◌++◌, drop}
use Rattle.std.specs.Prelude.{filter}
use Rattle.smf_admin.specs.Output.{is_chosen}
use Rattle.smf_admin.proofs.output.chosen_items.Given as goal

abbrev pub invariant-loop-item : goal.invariant-loop-item
invariant-loop-item l = l.all.items ++ filter (is_chosen l.chosen l.patterns) (drop l.item-index l.view)
    ≡ filter (is_chosen l.chosen l.patterns) l.view

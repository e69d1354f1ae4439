use Rattle.std.proofs.Common.{◌≡◌, ◌++◌, drop}
use Rattle.std.specs.List.{filter_map}
use Rattle.smf_world.specs.Items.{change_item}
use Rattle.smf_machine.proofs.parts.System.push_items.Given as goal

abbrev pub invariant-loop-change : goal.invariant-loop-change
invariant-loop-change g l = l.all ++ filter_map (change_item l.self.now) (drop l.change-index l.changes)
    ≡ l.fn.all ++ filter_map (change_item l.self.now) l.changes

use Rattle.std.proofs.Common.{◌≡◌, ◌++◌, drop, map}
use Rattle.smf_runs.specs.Reasons.{item_after_refresh}
use Rattle.smf_runs.proofs.configured.all_refreshed.Given as goal

abbrev pub invariant-loop-item : goal.invariant-loop-item
invariant-loop-item g l = l.all.items ++ map (item_after_refresh l.repository.held) (drop l.item-index l.items)
    ≡ map (item_after_refresh l.repository.held) l.items

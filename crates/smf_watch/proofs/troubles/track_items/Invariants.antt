use Rattle.std.proofs.Common.{◌≡◌, drop}
use Rattle.smf_watch.specs.Troubles.{tracked, tracked_items}
use Rattle.smf_watch.proofs.troubles.track_items.Given as goal

abbrev pub invariant-loop-item : goal.invariant-loop-item
invariant-loop-item g l =
    tracked_items l.repository.held l.table.table l.now (drop l.item-index l.items) (tracked l.into)
    ≡ tracked_items l.repository.held l.table.table l.now l.items (tracked l.fn.into)

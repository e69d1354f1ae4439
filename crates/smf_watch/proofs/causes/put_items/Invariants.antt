use Rattle.std.proofs.Common.{◌≡◌, drop}
use Rattle.smf_watch.specs.Causes.{with_items}
use Rattle.smf_watch.proofs.causes.put_items.Given as goal

abbrev pub invariant-loop-item : goal.invariant-loop-item
invariant-loop-item l = with_items (drop l.item-index l.items) l.known ≡ with_items l.items l.fn.known

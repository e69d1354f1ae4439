use Rattle.std.proofs.Common.{◌≡◌, length}
use Rattle.std.specs.Vec.Iter.{into_iter_items}
use Rattle.smf_model.specs.Look.{holdings_after_changes}
use Rattle.smf_model.specs.Tables.{HasRoom, held_in}
use Rattle.smf_model.proofs.tables.install.Given as goal

abbrev pub invariant-loop-change : goal.invariant-loop-change
invariant-loop-change l = record {
  same : holdings_after_changes (held_in l.lists) (into_iter_items l.change-iterator)
      ≡ holdings_after_changes (held_in l.fn.lists) l.fn.changes.items;
  room : HasRoom l.lists (length (into_iter_items l.change-iterator));
}

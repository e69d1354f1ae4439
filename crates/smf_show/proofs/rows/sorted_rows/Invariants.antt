use Rattle.std.proofs.Common.{◌≡◌}
use Rattle.std.specs.Vec.Iter.{into_iter_items}
use Rattle.smf_show.specs.Rows.{sorted_rows, sorted_with}
use Rattle.smf_show.proofs.rows.sorted_rows.Given as goal

abbrev pub invariant-loop-row : goal.invariant-loop-row
invariant-loop-row l =
    sorted_with l.keys (into_iter_items l.row-iterator) l.sorted.items ≡ sorted_rows l.keys l.fn.rows.items

use Rattle.std.proofs.Common.{◌≡◌, ◌++◌, filter}
use Rattle.std.specs.Vec.Iter.{into_iter_items}
use Rattle.smf_show.specs.Rows.{is_run_by}
use Rattle.smf_show.proofs.rows.rows_run_by.Given as goal

abbrev pub invariant-loop-row : goal.invariant-loop-row
invariant-loop-row l = l.kept.items ++ filter (is_run_by l.restarter) (into_iter_items l.row-iterator)
    ≡ filter (is_run_by l.restarter) l.fn.rows.items

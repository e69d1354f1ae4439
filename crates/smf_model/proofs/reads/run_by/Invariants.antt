use Rattle.std.proofs.Common.{◌≡◌, ◌++◌, filter}
use Rattle.std.specs.Vec.Iter.{into_iter_items}
use Rattle.smf_model.specs.Shown.{is_run_by}
use Rattle.smf_model.proofs.reads.run_by.Given as goal

abbrev pub invariant-loop-instance : goal.invariant-loop-instance
invariant-loop-instance l = l.rows.items ++ filter (is_run_by l.restarter) (into_iter_items l.instance-iterator)
    ≡ filter (is_run_by l.restarter) l.fn.instances.items

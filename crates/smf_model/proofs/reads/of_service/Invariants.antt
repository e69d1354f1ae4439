use Rattle.std.proofs.Common.{◌≡◌, ◌++◌, filter}
use Rattle.std.specs.Vec.Iter.{into_iter_items}
use Rattle.smf_model.specs.Next.{is_instance_of}
use Rattle.smf_model.proofs.reads.of_service.Given as goal

abbrev pub invariant-loop-instance : goal.invariant-loop-instance
invariant-loop-instance l = l.rows.items ++ filter (is_instance_of l.service) (into_iter_items l.instance-iterator)
    ≡ filter (is_instance_of l.service) l.fn.instances.items

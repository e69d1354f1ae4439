use Rattle.std.proofs.Common.{◌≡◌, ◌++◌, map, drop}
use Rattle.smf_stops.specs.Plan.{batch_of}
use Rattle.smf_stops.proofs.plan.batches_of.Given as goal

abbrev pub invariant-loop-batch : goal.invariant-loop-batch
invariant-loop-batch l = l.all ++ map (batch_of l.limits l.view) (drop l.batch-index l.members)
    ≡ map (batch_of l.limits l.view) l.members

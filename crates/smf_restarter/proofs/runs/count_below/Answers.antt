use Rattle.std.proofs.Common.{ltb, ltb-true, rules}
use Rattle.std.proofs.lemmas.List.Sorted.{IsPartitionPoint-from_clause, IsPartitionedBy-ltb}
use Rattle.smf_restarter.specs.Runs.{instance_of}
use Rattle.smf_restarter.proofs.runs.count_below.Goals as goal

pub returns-clause-below : goal.returns-clause-below
returns-clause-below c =
    let parted = IsPartitionedBy-ltb instance_of c.args.runs.now c.args.instance c.requires in
    let point =
    IsPartitionPoint-from_clause (λ r. ltb (instance_of r) c.args.instance) _ _
    c.partition_point.ensures.partitioned parted (λ a r q k. search rules) in
    λ k d l h. ltb-true _ _ (point.0 k d l h)

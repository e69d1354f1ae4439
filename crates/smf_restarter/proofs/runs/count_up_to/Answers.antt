use Rattle.std.proofs.Common.{leb, leb-false, rules}
use Rattle.std.proofs.lemmas.List.Sorted.{IsPartitionPoint-from_clause, IsPartitionedBy-leb}
use Rattle.smf_restarter.specs.Runs.{instance_of}
use Rattle.smf_restarter.proofs.runs.count_up_to.Goals as goal

pub returns-clause-above : goal.returns-clause-above
returns-clause-above c =
    let parted = IsPartitionedBy-leb instance_of c.args.runs.now c.args.instance c.requires in
    let point =
    IsPartitionPoint-from_clause (λ r. leb (instance_of r) c.args.instance) _ _
    c.partition_point.ensures.partitioned parted (λ a r q k. search rules) in
    λ k d l h. leb-false _ _ (point.1 k d l h)

use Rattle.std.proofs.Common.{leb, leb-true, leb-false, rules}
use Rattle.std.proofs.lemmas.List.Sorted.{IsPartitionPoint-from_clause, IsPartitionedBy-leb}
use Rattle.smf_contract.specs.declared.contract.Member.{Member}
use Rattle.smf_contract.proofs.members.count_up_to.Goals as goal

pub returns-clause-point : goal.returns-clause-point
returns-clause-point c =
    let parted = IsPartitionedBy-leb (λ (m : Member). m.contract) c.args.grouped.now c.args.contract c.requires in
    let point =
    IsPartitionPoint-from_clause (λ (m : Member). leb m.contract c.args.contract) _ _
    c.partition_point.ensures.partitioned parted (λ a r q k. search rules) in
    (λ k d l h. leb-true _ _ (point.0 k d l h), λ k d l h. leb-false _ _ (point.1 k d l h))

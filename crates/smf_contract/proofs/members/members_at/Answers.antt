use Rattle.std.proofs.Common.{◌∙◌, take, ap, subst, sym}
use Rattle.std.specs.List.Sorted.{IsNonDecreasingBy}
use Rattle.std.proofs.lemmas.List.Sorted.{IsNonDecreasingBy-drop}
use Rattle.smf_contract.specs.declared.contract.Member.{Member}
use Rattle.smf_contract.proofs.Grouped.{found_from, rising}
use Rattle.smf_contract.proofs.members.members_at.Goals as goal

pub count_below-requires : goal.count_below-requires
count_below-requires c = rising c.args.grouped.now c.requires

pub count_up_to-requires : goal.count_up_to-requires
count_up_to-requires c =
    subst (IsNonDecreasingBy (λ (m : Member). m.contract)) (sym c.split_at.ensures.back)
    (IsNonDecreasingBy-drop (λ (m : Member). m.contract) c.count_below.result c.args.grouped.now
    (rising c.args.grouped.now c.requires))

pub returns : goal.returns
returns c =
    c.split_at-2.ensures.front ∙ ap (take c.count_up_to.result) c.split_at.ensures.back
    ∙ found_from c.args.contract c.args.grouped.now c.count_below.result c.count_up_to.result
    c.count_below.ensures.point.0 c.count_below.ensures.point.1
    (rw c.split_at.ensures.back at c.count_up_to.ensures.point.0)
    (rw c.split_at.ensures.back at c.count_up_to.ensures.point.1)

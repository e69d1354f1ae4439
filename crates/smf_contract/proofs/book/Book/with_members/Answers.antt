use Rattle.std.proofs.Common.{◌≡◌, List, filter, map, sym, subst}
use Rattle.smf_contract.specs.declared.contract.Contract.{Contract}
use Rattle.smf_contract.specs.Entries.{has_members}
use Rattle.smf_contract.specs.Laws.{Ascends}
use Rattle.smf_contract.proofs.ThinTables.{filter_up}
use Rattle.smf_contract.proofs.book.Book.with_members.Goals as goal

-- ids that are left stand in order
pub invariant_of-result : goal.invariant_of-result
invariant_of-result c =
    let old : List Contract = c.self.inside.contracts.items in
    let kept : c.in_ok-contracts.contracts.items
    ≡ filter (λ (x : Contract). has_members x.id c.args.members.now.members) old =
    rw c.deref.ensures.value at c.in_ok-contracts.ensures in
    subst (λ (cs : List Contract). Ascends 0 (map (λ (x : Contract). x.id) cs) c.self.inside.last) (sym kept)
    (filter_up (λ (x : Contract). has_members x.id c.args.members.now.members) 0 c.self.inside.last old
    c.self.invariant)

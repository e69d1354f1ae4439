use Rattle.std.proofs.Common.{List, sym, subst}
use Rattle.smf_contract.specs.declared.contract.Member.{Member}
use Rattle.smf_contract.specs.Entries.{outside}
use Rattle.smf_contract.specs.Trail.{AreGrouped}
use Rattle.smf_contract.proofs.Grouped.{grouped_outside}
use Rattle.smf_contract.proofs.members.Members.remove_all.Goals as goal

pub invariant_of-self : goal.invariant_of-self
invariant_of-self c =
    let was = c.self.inside in
    subst (λ (ms : List Member). AreGrouped ms c.take_all-2.new.members.items was.last) (sym c.take_all.ensures)
    (subst (λ (gs : List Member). AreGrouped (outside c.args.contract was.all.items) gs was.last)
    (sym c.take_all-2.ensures)
    (grouped_outside c.args.contract was.all.items was.grouped.items was.last c.self.invariant))

use Rattle.std.proofs.Common.{refl}
use Rattle.smf_contract.proofs.Halves.{ascends_set}
use Rattle.smf_contract.proofs.book.Book.acknowledge.Goals as goal

-- no id changes
pub invariant_of-self : goal.invariant_of-self
invariant_of-self c =
    ascends_set c.self.inside.contracts.items c.in-Some.k c.index_mut-contract.result.now _ _ c.self.inside.last
    c.index_mut-contract.ensures.value refl c.self.invariant

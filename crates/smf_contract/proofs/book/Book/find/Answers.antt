use Rattle.smf_contract.specs.declared.contract.Contract.{Contract}
use Rattle.smf_contract.proofs.Halves.{rises_from}
use Rattle.smf_contract.proofs.book.Book.find.Goals as goal

pub place_of-requires : goal.place_of-requires
place_of-requires c =
    rw c.deref.ensures.value
    (rises_from (λ (c : Contract). c.id) 0 c.self.inside.contracts.items c.self.inside.last c.self.invariant)

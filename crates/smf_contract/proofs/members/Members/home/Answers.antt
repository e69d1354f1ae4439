use Rattle.smf_contract.specs.declared.contract.Member.{Member}
use Rattle.smf_contract.proofs.Halves.{rises_from}
use Rattle.smf_contract.proofs.members.Members.home.Goals as goal

pub home-requires : goal.home-requires
home-requires c =
    rw c.deref.ensures.value
    (rises_from (λ (m : Member). m.process) 0 c.self.inside.all.items c.self.inside.last c.self.invariant.ascends)

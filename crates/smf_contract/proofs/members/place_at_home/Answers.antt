use Rattle.std.proofs.Common.{rules}
use Rattle.std.proofs.lemmas.Fn.{always_returns_same}
use Rattle.std.specs.Ordering.{nat_cmp, ordering_then}
use Rattle.smf_fmri.proofs.Places.{search_is_placed}
use Rattle.smf_contract.specs.declared.contract.Member.{Member}
use Rattle.smf_contract.specs.Trail.{by_home}
use Rattle.smf_contract.proofs.members.place_at_home.Goals as goal

-- the closure compares a contract and a process
pub returns : goal.returns
returns c =
    let facts = c.binary_search_by.ensures in
    let compared =
    facts.position
    (λ (m : Member). ordering_then (nat_cmp m.contract c.args.contract) (nat_cmp m.process c.args.process))
    (always_returns_same _ _ _ (λ a r f' called. search rules)) in
    search_is_placed by_home (c.args.contract, c.args.process) _ c.requires _ facts.bound compared

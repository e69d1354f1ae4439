use Rattle.std.proofs.Common.{rules}
use Rattle.std.proofs.lemmas.Fn.{always_returns_same}
use Rattle.std.specs.Ordering.{nat_cmp}
use Rattle.smf_fmri.proofs.Places.{search_is_placed}
use Rattle.smf_contract.specs.declared.contract.Member.{Member}
use Rattle.smf_contract.specs.Trail.{by_process}
use Rattle.smf_contract.proofs.members.place_of.Goals as goal

-- the closure compares a process
pub returns : goal.returns
returns c =
    let facts = c.binary_search_by.ensures in
    let compared =
    facts.position (λ (m : Member). nat_cmp m.process c.args.process)
    (always_returns_same _ _ _ (λ a r f' called. search rules)) in
    search_is_placed by_process c.args.process _ c.requires _ facts.bound compared

use Rattle.std.proofs.Common.{rules}
use Rattle.std.proofs.lemmas.Fn.{always_returns_same}
use Rattle.std.specs.Ordering.{nat_cmp}
use Rattle.smf_fmri.proofs.Places.{search_is_placed}
use Rattle.smf_contract.specs.declared.past.Last.{Last}
use Rattle.smf_contract.specs.Trail.{by_contract}
use Rattle.smf_contract.proofs.past.place_of_last.Goals as goal

-- the closure compares a contract's id
pub returns : goal.returns
returns c =
    let facts = c.binary_search_by.ensures in
    let compared =
    facts.position (λ (l : Last). nat_cmp l.contract c.args.contract)
    (always_returns_same _ _ _ (λ a r f' called. search rules)) in
    search_is_placed by_contract c.args.contract _ c.requires _ facts.bound compared

use Rattle.std.proofs.Common.{rules}
use Rattle.std.proofs.lemmas.Fn.{always_returns_same}
use Rattle.std.specs.Ordering.{nat_cmp}
use Rattle.smf_fmri.proofs.Places.{search_is_placed}
use Rattle.smf_contract.specs.declared.contract.Contract.{Contract}
use Rattle.smf_contract.specs.Trail.{by_id}
use Rattle.smf_contract.proofs.book.search.Goals as goal

-- the closure compares a contract's id
pub returns : goal.returns
returns c =
    let facts = c.binary_search_by.ensures in
    let compared =
    facts.position (λ (x : Contract). nat_cmp x.id c.args.id)
    (always_returns_same _ _ _ (λ a r f' called. search rules)) in
    search_is_placed by_id c.args.id _ c.requires _ facts.bound compared

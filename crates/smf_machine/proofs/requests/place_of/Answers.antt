use Rattle.std.proofs.Common.{rules}
use Rattle.std.specs.Ordering.{nat_cmp}
use Rattle.std.proofs.lemmas.Fn.{always_returns_same}
use Rattle.smf_fmri.proofs.Places.{search_is_placed}
use Rattle.smf_restarter.specs.Knowledge.{by_instance}
use Rattle.smf_machine.proofs.requests.place_of.Goals as goal

-- the closure compares an instance's number
pub returns : goal.returns
returns c =
    let facts = c.binary_search_by.ensures in
    let compared =
    facts.position (λ known. nat_cmp known.instance c.args.instance)
    (always_returns_same _ _ _ (λ a r f' called. search rules)) in
    search_is_placed by_instance c.args.instance _ c.requires _ facts.bound compared

use Rattle.std.proofs.Common.{ℕ, rules}
use Rattle.std.proofs.lemmas.Fn.{always_returns_same}
use Rattle.std.specs.Ordering.{nat_cmp}
use Rattle.smf_fmri.proofs.Places.{search_is_placed}
use Rattle.smf_dep.specs.Departures.{by_itself}
use Rattle.smf_dep.proofs.roll.search.Goals as goal

pub returns : goal.returns
returns c =
    let facts = c.binary_search_by.ensures in
    let compared =
    facts.position (λ (n : ℕ). nat_cmp n c.args.instance) (always_returns_same _ _ _ (λ a r f' called. search rules)) in
    search_is_placed by_itself c.args.instance _ c.requires _ facts.bound compared

use Rattle.std.proofs.Common.{rules}
use Rattle.std.proofs.lemmas.Fn.{always_returns_same}
use Rattle.smf_fmri.proofs.Places.{search_is_placed}
use Rattle.smf_fmri.proofs.sorted.place_in.Goals as goal

-- the closure compares an item's key
pub returns : goal.returns
returns g c =
    let facts = c.binary_search_by.ensures in
    let by = g.T.Keyed.by in
    let compared =
    facts.position (λ item. by.cmp (by.key item) c.args.key.now)
    (always_returns_same _ _ _ (λ a r f' called. search rules)) in
    search_is_placed by c.args.key.now _ c.requires _ facts.bound compared

use Rattle.std.proofs.Common.{rules}
use Rattle.std.proofs.lemmas.Fn.{always_returns_same}
use Rattle.smf_fmri.specs.ByKey.{by_text}
use Rattle.smf_fmri.proofs.Places.{search_is_placed}
use Rattle.smf_fmri.proofs.sorted.place_of_text.Goals as goal

-- the closure compares the text of an item's key
pub returns : goal.returns
returns g c =
    let facts = c.binary_search_by.ensures in
    let by = by_text g.T.TextKeyed.text in
    let compared =
    facts.position (λ item. by.cmp (by.key item) c.args.text.now)
    (always_returns_same _ _ _ (λ a r f' called. search rules)) in
    search_is_placed by c.args.text.now _ c.requires _ facts.bound compared

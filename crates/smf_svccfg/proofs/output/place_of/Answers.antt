use Rattle.std.proofs.Common.{rules}
use Rattle.std.proofs.lemmas.Fn.{always_returns_same}
use Rattle.smf_fmri.proofs.Places.{search_is_placed}
use Rattle.smf_model.specs.Look.{by_name}
use Rattle.smf_svccfg.proofs.output.place_of.Goals as goal

-- the closure compares the name of an instance
pub returns : goal.returns
returns c =
    let facts = c.binary_search_by.ensures in
    let compared =
    facts.position (λ item. by_name.cmp (by_name.key item) c.args.text.now)
    (always_returns_same _ _ _ (λ a r f' called. search rules)) in
    search_is_placed by_name c.args.text.now _ c.requires _ facts.bound compared

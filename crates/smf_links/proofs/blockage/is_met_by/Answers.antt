use Rattle.std.proofs.Common.{◌∙◌, map}
use Rattle.smf_links.specs.Blockage.{off_at, runs_at}
use Rattle.smf_links.specs.Stamps.{before}
use Rattle.smf_links.specs.Tallies.{entity_of}
use Rattle.smf_links.proofs.Counted.{counted_met, tally_found}
use Rattle.smf_links.proofs.blockage.is_met_by.Goals as goal

pub returns-in-Some : goal.returns-in-Some
returns-in-Some c =
    let es = map (entity_of (runs_at c.args.nodes.now) (off_at c.args.nodes.now)
    (before c.args.stamps.now c.args.limit)) c.args.link.now.cited in
    c.is_met.ensures
    ∙ counted_met (runs_at c.args.nodes.now) (off_at c.args.nodes.now)
    (before c.args.stamps.now c.args.limit) c.args.link.now c.in-Some.tally.now
    (tally_found c.args.tallies.now c.args.number c.in-Some.tally.now es c.in-Some.ensures.lookup.3.0
    c.in-Some.ensures.lookup.1 c.requires)

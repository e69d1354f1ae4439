use Rattle.std.proofs.Common.{◌∙◌, map, sym}
use Rattle.smf_links.specs.Blockage.{off_at, runs_at}
use Rattle.smf_links.specs.Stamps.{has_stamp}
use Rattle.smf_links.specs.Tallies.{entity_of}
use Rattle.smf_links.proofs.Counted.{counted_free, tally_found}
use Rattle.smf_links.proofs.blockage.is_blocked_by.Goals as goal

pub returns-else-is_blocked : goal.returns-else-is_blocked
returns-else-is_blocked c =
    let es = map (entity_of (runs_at c.args.nodes.now) (off_at c.args.nodes.now) (has_stamp c.args.stamps.now))
    c.args.link.now.cited in
    c.if-is_blocked.false
    ∙ counted_free (runs_at c.args.nodes.now) (off_at c.args.nodes.now) c.args.stamps.now c.args.limit c.args.link.now
    c.in-Some.tally.now
    (tally_found c.args.tallies.now c.args.number c.in-Some.tally.now es c.in-Some.ensures.lookup.3.0
    c.in-Some.ensures.lookup.1 c.requires) (sym c.is_blocked.ensures ∙ c.if-is_blocked.false)

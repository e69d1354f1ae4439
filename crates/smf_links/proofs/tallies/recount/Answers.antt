use Rattle.smf_links.specs.Blockage.{off_at, runs_at}
use Rattle.smf_links.specs.Stamps.{has_stamp}
use Rattle.smf_links.proofs.Shapes.{tallies_all}
use Rattle.smf_links.proofs.tallies.recount.Goals as goal

pub returns : goal.returns
returns c =
    tallies_all (runs_at c.args.nodes.now) (off_at c.args.nodes.now) (has_stamp c.args.stamps.now) c.args.links.now
    c.loop-at.at c.loop-at.own c.loop-at-test.false c.loop-at.invariant

use Rattle.std.proofs.Common.{ap, ◌∙◌}
use Rattle.smf_links.specs.Blockage.{off_at, runs_at}
use Rattle.smf_links.specs.Stamps.{has_stamp}
use Rattle.smf_links.specs.Tallies.{entity_of}
use Rattle.smf_links.specs.Wires.{put_in}
use Rattle.smf_links.proofs.Shapes.{counted_all, counted_more, counted_none}
use Rattle.smf_links.proofs.tallies.recount_link.Goals as goal

pub loop-number-init : goal.loop-number-init
loop-number-init c =
    counted_none (entity_of (runs_at c.args.nodes.now) (off_at c.args.nodes.now) (has_stamp c.args.stamps.now))
    c.args.cited.now c.args.own.now c.args.at c.requires.size

pub loop-number-preserved : goal.loop-number-preserved
loop-number-preserved c =
    let f = entity_of (runs_at c.args.nodes.now) (off_at c.args.nodes.now) (has_stamp c.args.stamps.now) in
    counted_more f c.args.cited.now c.args.own.now c.args.at c.loop-number.number c.loop-number.own c.set.new.self
    c.index-cited-number.result c.requires.within c.loop-number-test.true c.index-cited-number.is
    (c.set.ensures
    ∙ ap (put_in c.loop-number.own c.args.at c.loop-number.number)
    (c.entity_of-entity.ensures ∙ ap f c.as_slice.ensures))
    c.loop-number.invariant

pub returns : goal.returns
returns c =
    counted_all (entity_of (runs_at c.args.nodes.now) (off_at c.args.nodes.now) (has_stamp c.args.stamps.now))
    c.args.cited.now c.args.own.now c.args.at c.loop-number.number c.loop-number.own c.loop-number-test.false
    c.loop-number.invariant

use Rattle.std.proofs.Common.{List, get_or, length, subst, sym}
use Rattle.std.proofs.lemmas.List.{get_or_default}
use Rattle.smf_links.specs.declared.wires.Spot.{Spot}
use Rattle.smf_links.specs.Blockage.{off_at, runs_at}
use Rattle.smf_links.specs.Stamps.{has_stamp}
use Rattle.smf_links.specs.Wires.{IsTalliedBut, links_at, spot_of}
use Rattle.smf_links.proofs.TallyUpdates.{tallied_end, tallied_more}
use Rattle.smf_links.proofs.tallies.retally.Goals as goal

pub loop-spot-init : goal.loop-spot-init
loop-spot-init c =
    let F : List Spot → Type 0 = λ l. IsTalliedBut c.args.nodes.now c.args.stamps.now l c.args.tallies.now in
    subst F (sym c.spots_of-spots.ensures) c.requires

pub loop-spot-preserved : goal.loop-spot-preserved
loop-spot-preserved c =
    let left = c.spots_of-spots.result.now in
    let spot = get_or left c.loop-spot.spot-index (spot_of 0 0 0) in
    tallied_more (links_at c.args.nodes.now) (length c.args.nodes.now) (runs_at c.args.nodes.now)
    (off_at c.args.nodes.now) (has_stamp c.args.stamps.now) c.loop-spot.tallies c.put_spot.new.tallies
    left c.loop-spot.spot-index spot c.loop-spot-test.true
    (get_or_default left c.loop-spot.spot-index (spot_of 0 0 0) spot c.loop-spot-test.true) c.put_spot.ensures
    c.loop-spot.invariant

pub returns : goal.returns
returns c =
    tallied_end (links_at c.args.nodes.now) (length c.args.nodes.now) (runs_at c.args.nodes.now)
    (off_at c.args.nodes.now) (has_stamp c.args.stamps.now) c.loop-spot.tallies
    c.spots_of-spots.result.now c.loop-spot.spot-index c.loop-spot-test.false c.loop-spot.invariant

use Rattle.std.proofs.Common.{get_or}
use Rattle.std.proofs.lemmas.List.{get_or_default}
use Rattle.smf_links.specs.Wires.{spot_of}
use Rattle.smf_links.proofs.Spots.{absent_at}
use Rattle.smf_links.proofs.wires.has_spot.Goals as goal

pub returns-then-is_same : goal.returns-then-is_same
returns-then-is_same c = λ e.
    let other = get_or c.args.spots.now c.loop-other.other-index (spot_of 0 0 0) in
    absent_at c.args.spot.now c.args.spots.now c.loop-other.other-index other c.loop-other-test.true
    (get_or_default c.args.spots.now c.loop-other.other-index (spot_of 0 0 0) other c.loop-other-test.true)
    (c.is_same.ensures c.if-is_same.true)

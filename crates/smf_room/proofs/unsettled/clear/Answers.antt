use Rattle.std.proofs.Common.{◌<◌, length, rules}
use Rattle.smf_room.specs.Clearings.{IsClearingLost, IsClearingTo}
use Rattle.smf_room.proofs.Clearing.{clearing_lost, clearing_next, clearing_smaller}
use Rattle.smf_room.proofs.Hearing.{both, on_err, weaker}
use Rattle.smf_room.proofs.unsettled.clear.Goals as goal

pub returns-in_err-gone-clause-lost : goal.returns-in_err-gone-clause-lost
returns-in_err-gone-clause-lost g c =
    let lt : c.loop-at.at < length c.loop-at.unsettled.items = search rules in
    on_err c.from_residual.result
    (weaker (IsClearingLost c.args.instance.now c.args.unsettled.now.items c.loop-at.unsettled.items)
    (clearing_lost c.args.instance.now c.loop-at.at c.args.unsettled.now.items c.loop-at.unsettled.items c.index.result.now lt
    c.index.ensures)
    (both c.loop-at.invariant c.in_err-gone.ensures.lost))

pub loop-at-smaller : goal.loop-at-smaller
loop-at-smaller g c =
    let lt : c.loop-at.at < length c.loop-at.unsettled.items = search rules in
    clearing_smaller c.loop-at.at c.next_place-at.result c.loop-at.unsettled.items c.next_place-at.new.unsettled.items
    c.in_ok-gone.gone lt c.next_place-at.ensures.next c.next_place-at.ensures.left

pub loop-at-preserved : goal.loop-at-preserved
loop-at-preserved g c =
    let lt : c.loop-at.at < length c.loop-at.unsettled.items = search rules in
    weaker (IsClearingTo c.args.instance.now c.next_place-at.result c.args.unsettled.now.items c.next_place-at.new.unsettled.items)
    (clearing_next c.args.instance.now c.loop-at.at c.next_place-at.result c.args.unsettled.now.items
    c.loop-at.unsettled.items c.next_place-at.new.unsettled.items c.index.result.now c.in_ok-gone.gone lt c.index.ensures
    c.next_place-at.ensures.next c.next_place-at.ensures.left)
    (both c.loop-at.invariant c.in_ok-gone.ensures.done)

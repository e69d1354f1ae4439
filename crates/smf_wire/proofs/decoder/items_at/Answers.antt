use Rattle.std.proofs.Common.{None}
use Rattle.std.proofs.lemmas.Result.{err_from_is_err_and}
use Rattle.smf_state.specs.Fields.{text_of_borrow}
use Rattle.smf_wire.specs.Grammar.{items_at, last_item, item_at}
use Rattle.smf_wire.proofs.InOrder.{item_number, view_all}
use Rattle.smf_wire.proofs.Loops.{ends, goes_on, is_done, last_pushed}
use Rattle.smf_wire.proofs.decoder.items_at.Goals as goal

pub returns-in_err-item : goal.returns-in_err-item
returns-in_err-item c =
    let p = err_from_is_err_and c.from_residual.result c.from_residual.ensures.1 in
    rw (p.1, p.2)
    (ends item_number item_at items_at view_all c.in_err-item.field-0.0 c.loop.items
    (last_item c.loop.items) c.args.count c.loop.counter (text_of_borrow c.loop.left)
    (items_at None c.args.count (text_of_borrow c.args.rest)) c.loop-test.true
    (rw (c.last_item.ensures, c.as_slice.ensures) at c.in_err-item.ensures) c.loop.invariant)

pub loop-preserved : goal.loop-preserved
loop-preserved c =
    rw (c.in_ok-push.ensures.ok, last_pushed item_number c.loop.items c.in_ok-item.item)
    (goes_on item_number item_at items_at view_all c.loop.items
    (last_item c.loop.items) c.args.count c.loop.counter (text_of_borrow c.loop.left)
    c.in_ok-item.item (text_of_borrow c.in_ok-item.after)
    (items_at None c.args.count (text_of_borrow c.args.rest)) c.loop-test.true
    (rw (c.last_item.ensures, c.as_slice.ensures) at c.in_ok-item.ensures) c.loop.invariant)

pub returns : goal.returns
returns c = is_done item_number item_at items_at view_all c.loop.items
    (last_item c.loop.items) c.args.count c.loop.counter (text_of_borrow c.loop.left)
    (items_at None c.args.count (text_of_borrow c.args.rest)) c.loop-test.false c.loop.invariant

use Rattle.std.proofs.Common.{None}
use Rattle.std.proofs.lemmas.Result.{err_from_is_err_and}
use Rattle.smf_state.specs.Fields.{text_of_borrow}
use Rattle.smf_wire.specs.Grammar.{all_changed_at, last_changed, changed_at}
use Rattle.smf_wire.proofs.InOrder.{changed_number, change_all}
use Rattle.smf_wire.proofs.Loops.{ends, goes_on, is_done, last_pushed}
use Rattle.smf_wire.proofs.decoder.all_changed_at.Goals as goal

pub returns-in_err-changed : goal.returns-in_err-changed
returns-in_err-changed c =
    let p = err_from_is_err_and c.from_residual.result c.from_residual.ensures.1 in
    rw (p.1, p.2)
    (ends changed_number changed_at all_changed_at change_all c.in_err-changed.field-0.0 c.loop.items
    (last_changed c.loop.items) c.args.count c.loop.counter (text_of_borrow c.loop.left)
    (all_changed_at None c.args.count (text_of_borrow c.args.rest)) c.loop-test.true
    (rw (c.last_changed.ensures, c.as_slice.ensures) at c.in_err-changed.ensures) c.loop.invariant)

pub loop-preserved : goal.loop-preserved
loop-preserved c =
    rw (c.in_ok-push.ensures.ok, last_pushed changed_number c.loop.items c.in_ok-changed.changed)
    (goes_on changed_number changed_at all_changed_at change_all c.loop.items
    (last_changed c.loop.items) c.args.count c.loop.counter (text_of_borrow c.loop.left)
    c.in_ok-changed.changed (text_of_borrow c.in_ok-changed.after)
    (all_changed_at None c.args.count (text_of_borrow c.args.rest)) c.loop-test.true
    (rw (c.last_changed.ensures, c.as_slice.ensures) at c.in_ok-changed.ensures) c.loop.invariant)

pub returns : goal.returns
returns c = is_done changed_number changed_at all_changed_at change_all c.loop.items
    (last_changed c.loop.items) c.args.count c.loop.counter (text_of_borrow c.loop.left)
    (all_changed_at None c.args.count (text_of_borrow c.args.rest)) c.loop-test.false c.loop.invariant

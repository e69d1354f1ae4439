use Rattle.std.proofs.Common.{None}
use Rattle.std.proofs.lemmas.Result.{err_from_is_err_and}
use Rattle.smf_state.specs.Fields.{text_of_borrow}
use Rattle.smf_wire.specs.Grammar.{all_known_at, last_known, known_at}
use Rattle.smf_wire.proofs.InOrder.{known_number, known_all}
use Rattle.smf_wire.proofs.Loops.{ends, goes_on, is_done, last_pushed}
use Rattle.smf_wire.proofs.decoder.all_known_at.Goals as goal

pub returns-in_err-known : goal.returns-in_err-known
returns-in_err-known c =
    let p = err_from_is_err_and c.from_residual.result c.from_residual.ensures.1 in
    rw (p.1, p.2)
    (ends known_number known_at all_known_at known_all c.in_err-known.field-0.0 c.loop.rows
    (last_known c.loop.rows) c.args.count c.loop.counter (text_of_borrow c.loop.left)
    (all_known_at None c.args.count (text_of_borrow c.args.rest)) c.loop-test.true
    (rw (c.last_known.ensures, c.as_slice.ensures) at c.in_err-known.ensures) c.loop.invariant)

pub loop-preserved : goal.loop-preserved
loop-preserved c =
    rw (c.in_ok-push.ensures.ok, last_pushed known_number c.loop.rows c.in_ok-known.known)
    (goes_on known_number known_at all_known_at known_all c.loop.rows
    (last_known c.loop.rows) c.args.count c.loop.counter (text_of_borrow c.loop.left)
    c.in_ok-known.known (text_of_borrow c.in_ok-known.after)
    (all_known_at None c.args.count (text_of_borrow c.args.rest)) c.loop-test.true
    (rw (c.last_known.ensures, c.as_slice.ensures) at c.in_ok-known.ensures) c.loop.invariant)

pub returns : goal.returns
returns c = is_done known_number known_at all_known_at known_all c.loop.rows
    (last_known c.loop.rows) c.args.count c.loop.counter (text_of_borrow c.loop.left)
    (all_known_at None c.args.count (text_of_borrow c.args.rest)) c.loop-test.false c.loop.invariant

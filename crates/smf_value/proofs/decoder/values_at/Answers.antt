use Rattle.std.proofs.Common.{None}
use Rattle.std.proofs.lemmas.Result.{err_from_is_err_and}
use Rattle.smf_value.specs.Decoder.{values_at}
use Rattle.smf_value.proofs.Loops.{unnamed, one_value, all_values, values_all, goes_on, ends, is_done}
use Rattle.smf_value.proofs.decoder.values_at.Goals as goal

pub returns-in_err-value : goal.returns-in_err-value
returns-in_err-value c =
    let p = err_from_is_err_and c.from_residual.result c.from_residual.ensures.1 in
    rw (p.1, p.2)
    (ends unnamed (one_value c.args.kind) (all_values c.args.kind)
    (values_all c.args.kind) c.in_err-value.field-0.0 c.loop.values None c.args.count c.loop.counter c.loop.rest.now
    (values_at c.args.kind c.args.count c.args.bytes.now) c.loop-test.true c.in_err-value.ensures c.loop.invariant)

pub loop-preserved : goal.loop-preserved
loop-preserved c =
    rw c.in_ok-push.ensures.ok
    (goes_on unnamed (one_value c.args.kind) (all_values c.args.kind)
    (values_all c.args.kind) c.loop.values None c.args.count c.loop.counter c.loop.rest.now
    c.in_ok-value.value c.in_ok-value.after.now (values_at c.args.kind c.args.count c.args.bytes.now) c.loop-test.true
    c.in_ok-value.ensures c.loop.invariant)

pub returns : goal.returns
returns c = is_done unnamed (one_value c.args.kind) (all_values c.args.kind)
    (values_all c.args.kind) c.loop.values None c.args.count c.loop.counter c.loop.rest.now
    (values_at c.args.kind c.args.count c.args.bytes.now) c.loop-test.false c.loop.invariant

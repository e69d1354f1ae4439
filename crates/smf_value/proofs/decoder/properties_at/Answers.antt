use Rattle.std.proofs.Common.{None}
use Rattle.std.proofs.lemmas.Result.{err_from_is_err_and}
use Rattle.smf_value.specs.Groups.{last_name}
use Rattle.smf_value.specs.Decoder.{property_at, properties_at}
use Rattle.smf_value.proofs.Loops.{property_name, properties_all, goes_on, ends, is_done, last_pushed}
use Rattle.smf_value.proofs.decoder.properties_at.Goals as goal

pub returns-in_err-property : goal.returns-in_err-property
returns-in_err-property c =
    let p = err_from_is_err_and c.from_residual.result c.from_residual.ensures.1 in
    rw (p.1, p.2)
    (ends property_name property_at properties_at properties_all c.in_err-property.field-0.0 c.loop.properties
    (last_name c.loop.properties) c.args.count c.loop.counter c.loop.rest.now
    (properties_at None c.args.count c.args.bytes.now) c.loop-test.true
    (rw (c.last_property.ensures, c.as_slice.ensures) at c.in_err-property.ensures) c.loop.invariant)

pub loop-preserved : goal.loop-preserved
loop-preserved c =
    rw (c.in_ok-push.ensures.ok, last_pushed property_name c.loop.properties c.in_ok-property.property)
    (goes_on property_name property_at properties_at properties_all c.loop.properties
    (last_name c.loop.properties) c.args.count c.loop.counter c.loop.rest.now
    c.in_ok-property.property c.in_ok-property.after.now
    (properties_at None c.args.count c.args.bytes.now) c.loop-test.true
    (rw (c.last_property.ensures, c.as_slice.ensures) at c.in_ok-property.ensures) c.loop.invariant)

pub returns : goal.returns
returns c = is_done property_name property_at properties_at properties_all c.loop.properties
    (last_name c.loop.properties) c.args.count c.loop.counter c.loop.rest.now
    (properties_at None c.args.count c.args.bytes.now) c.loop-test.false c.loop.invariant

use Rattle.std.proofs.Common.{None}
use Rattle.std.proofs.lemmas.Result.{err_from_is_err_and}
use Rattle.smf_value.specs.Groups.{last_group_name}
use Rattle.smf_value.specs.Decoder.{group_at, groups_at}
use Rattle.smf_value.proofs.Loops.{group_name, groups_all, goes_on, ends, is_done, last_pushed}
use Rattle.smf_value.proofs.decoder.groups_at.Goals as goal

pub returns-in_err-group : goal.returns-in_err-group
returns-in_err-group c =
    let p = err_from_is_err_and c.from_residual.result c.from_residual.ensures.1 in
    rw (p.1, p.2)
    (ends group_name group_at groups_at groups_all c.in_err-group.field-0.0 c.loop.groups
    (last_group_name c.loop.groups) c.args.count c.loop.counter c.loop.rest.now
    (groups_at None c.args.count c.args.bytes.now) c.loop-test.true
    (rw (c.last_group.ensures, c.as_slice.ensures) at c.in_err-group.ensures) c.loop.invariant)

pub loop-preserved : goal.loop-preserved
loop-preserved c =
    rw (c.in_ok-push.ensures.ok, last_pushed group_name c.loop.groups c.in_ok-group.group)
    (goes_on group_name group_at groups_at groups_all c.loop.groups
    (last_group_name c.loop.groups) c.args.count c.loop.counter c.loop.rest.now
    c.in_ok-group.group c.in_ok-group.after.now (groups_at None c.args.count c.args.bytes.now) c.loop-test.true
    (rw (c.last_group.ensures, c.as_slice.ensures) at c.in_ok-group.ensures) c.loop.invariant)

pub returns : goal.returns
returns c = is_done group_name group_at groups_at groups_all c.loop.groups
    (last_group_name c.loop.groups) c.args.count c.loop.counter c.loop.rest.now
    (groups_at None c.args.count c.args.bytes.now) c.loop-test.false c.loop.invariant

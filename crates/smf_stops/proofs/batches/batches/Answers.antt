use Rattle.std.proofs.Common.{◌∙◌, ◌-◌, ap, arith, length, sym}
use Rattle.smf_stops.specs.Stops.{any_going, batches}
use Rattle.smf_stops.proofs.Batched.{ended, full, longer}
use Rattle.smf_stops.proofs.batches.batches.Goals as goal

pub returns-then-not-any_going : goal.returns-then-not-any_going
returns-then-not-any_going c =
    ended c.loop.all (batches c.args.members) (length c.args.members - c.loop.counter) c.loop.left
    (ap any_going (sym c.as_slice.ensures) ∙ (sym c.any_going.ensures ∙ c.if-not-any_going.true)) c.loop.invariant

pub loop-preserved : goal.loop-preserved
loop-preserved c =
    longer c.loop.all c.push.new.self (batches c.args.members) c.in_ok-take_free.field-0 (length c.args.members)
    c.loop.counter c.loop.left c.take_free.new.left
    (ap any_going (sym c.as_slice.ensures) ∙ (sym c.any_going.ensures ∙ c.if-not-any_going.false))
    c.in_ok-take_free.ensures.taken c.in_ok-take_free.ensures.left c.in_ok-push.ensures.ok
    (omega (arith, c.loop-test.true, c.len-end.ensures)) c.loop.invariant

pub returns : goal.returns
returns c =
    full c.loop.all (batches c.args.members) (length c.args.members - c.loop.counter) c.loop.left
    (omega (arith, c.loop-test.false, c.len-end.ensures)) c.loop.invariant

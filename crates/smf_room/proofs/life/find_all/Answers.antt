use Rattle.std.proofs.Common.{◌+◌, drop, arith}
use Rattle.std.proofs.lemmas.Grind.{common_steps}
use Rattle.smf_room.specs.Beginnings.{IsAnyFinding, IsFinding}
use Rattle.smf_room.proofs.Beginning.{Leads, could_find, could_push, leads_last, leads_next}
use Rattle.smf_room.proofs.Hearing.{both, both_lost, lost_of, on_err, stopped, weaker}
use Rattle.smf_room.proofs.life.find_all.Goals as goal

pub returns-in_err-one-clause-lost : goal.returns-in_err-one-clause-lost
returns-in_err-one-clause-lost g c =
    on_err c.from_residual.result
    (lost_of (IsAnyFinding c.args.ids.now)
    (could_find c.args.ids.now c.loop-id.id-index 0 c.loop-id.found.items c.loop-id-test.true)
    (both_lost c.loop-id.invariant c.in_err-one.ensures.lost))

pub returns-in_err-push_found-clause-lost : goal.returns-in_err-push_found-clause-lost
returns-in_err-push_found-clause-lost g c =
    on_err c.from_residual-in_err-push_found.result
    (stopped (IsAnyFinding c.args.ids.now)
    (could_push c.args.ids.now c.loop-id.id-index 0 c.in_ok-one.one c.loop-id.found.items c.loop-id-test.true)
    (both c.loop-id.invariant c.in_ok-one.ensures.done))

pub loop-id-preserved : goal.loop-id-preserved
loop-id-preserved g c =
    weaker (Leads c.args.ids.now (drop (c.loop-id.id-index + 1) c.args.ids.now) _)
    (leads_next c.args.ids.now c.loop-id.id-index 0 c.in_ok-one.one c.loop-id.found.items _ c.loop-id-test.true
    c.in_ok-push_found.ensures)
    (both c.loop-id.invariant c.in_ok-one.ensures.done)

pub returns-clause-done : goal.returns-clause-done
returns-clause-done g c =
    weaker (IsFinding c.args.ids.now c.loop-id.found.items)
    (leads_last c.args.ids.now c.loop-id.id-index c.loop-id.found.items (grind (arith, common_steps)))
    c.loop-id.invariant

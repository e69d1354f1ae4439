use Rattle.std.proofs.Common.{arith}
use Rattle.std.proofs.lemmas.Grind.{common_steps}
use Rattle.smf_model.proofs.Installs.{installed_step, installed_end, room_for, room_for_one}
use Rattle.smf_model.proofs.tables.install.Goals as goal

pub install_one-requires : goal.install_one-requires
install_one-requires c =
    room_for_one c.loop-change.lists _
    (room_for c.loop-change.lists _ _ _ c.in-Some.ensures.steps.0 c.loop-change.invariant.room)

pub loop-change-preserved : goal.loop-change-preserved
loop-change-preserved c = record {
  same = installed_step _ _ _ c.in-Some.change _ _ c.loop-change.invariant.same c.in-Some.ensures.steps.0
      c.install_one.ensures.made;
  room = c.install_one.ensures.room _
      (room_for c.loop-change.lists _ _ _ c.in-Some.ensures.steps.0 c.loop-change.invariant.room);
}

pub returns : goal.returns
returns c = installed_end _ _ _ c.loop-change.invariant.same (grind (arith, common_steps))

use Rattle.std.proofs.Common.{refl, ap, ◌∙◌}
use Rattle.smf_machine.proofs.Worlds.{on_err, same_world}
use Rattle.smf_machine.proofs.polls.hear.Goals as goal
use Rattle.smf_machine.specs.Children.{world_after_poll}

pub returns-in_err-make_room_for_one-clause-err : goal.returns-in_err-make_room_for_one-clause-err
returns-in_err-make_room_for_one-clause-err g c =
    λ h. on_err _ (same_world h h _ _ refl c.make_room_for_one.ensures.same)

pub returns-in_err-event-clause-err : goal.returns-in_err-event-clause-err
returns-in_err-event-clause-err g c = λ h. on_err _ (same_world h h _ _ refl c.make_room_for_one.ensures.same)

pub returns-clause-heard : goal.returns-clause-heard
returns-clause-heard g c = λ h. c.learn_if.ensures h
    ∙ ap (world_after_poll c.in_ok-event.event) (same_world h h _ _ refl c.make_room_for_one.ensures.same)

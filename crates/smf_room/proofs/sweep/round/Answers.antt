use Rattle.std.proofs.Common.{Some, false, ◌∙◌, ap}
use Rattle.smf_room.specs.declared.sight.Sight.TheVariants.{Unseen, Nothing}
use Rattle.smf_room.specs.Sweeps.{IsAnyRound, IsRound}
use Rattle.smf_room.specs.Tellings.{Did, Done, KilledGroup, Populated, deed}
use Rattle.smf_room.proofs.Hearing.{both, both_lost, heard_as, lost_of, on_err, one, one_lost, weaker}
use Rattle.smf_room.proofs.Sweeping.{could_ask, could_kill_group, could_mark_round, empty_group, full_group, no_group}
use Rattle.smf_room.proofs.sweep.round.Goals as goal

pub returns-in_err-some-clause-lost : goal.returns-in_err-some-clause-lost
returns-in_err-some-clause-lost g c =
    on_err c.from_residual.result
    (lost_of (IsAnyRound c.args.id c.args.sight) (could_ask c.args.id c.args.sight)
    (one_lost (Populated c.args.id (Some false)) c.in_err-some.ensures.lost))

pub returns-in-Some-false-clause-made : goal.returns-in-Some-false-clause-made
returns-in-Some-false-clause-made g c =
    weaker (IsRound c.args.id c.args.sight Nothing) (empty_group c.args.id c.args.sight)
    (heard_as (Populated c.args.id) (c.in-Some-false.is ∙ ap Some c.in-Some-false.field-0-test)
    (one c.in_ok-some.ensures.told))

pub returns-in_err-kill_group-in-Some-true-clause-lost : goal.returns-in_err-kill_group-in-Some-true-clause-lost
returns-in_err-kill_group-in-Some-true-clause-lost g c =
    on_err c.from_residual-in_err-kill_group-in-Some-true.result
    (lost_of (IsAnyRound c.args.id c.args.sight) (could_kill_group c.args.id c.args.sight)
    (both_lost
    (heard_as (Populated c.args.id) (c.in-Some-true.is ∙ ap Some c.in-Some-true.field-0-test)
    (one c.in_ok-some.ensures.told))
    (one_lost (Did (deed (KilledGroup c.args.id) Done)) c.in_err-kill_group-in-Some-true.ensures.lost)))

pub returns-in_ok-kill_group-in-Some-true-clause-made : goal.returns-in_ok-kill_group-in-Some-true-clause-made
returns-in_ok-kill_group-in-Some-true-clause-made g c =
    weaker (IsRound c.args.id c.args.sight Unseen) (full_group c.args.id c.args.sight)
    (both
    (heard_as (Populated c.args.id) (c.in-Some-true.is ∙ ap Some c.in-Some-true.field-0-test)
    (one c.in_ok-some.ensures.told))
    (one c.in_ok-kill_group-in-Some-true.ensures.told))

pub returns-in_err-next-in-None-clause-lost : goal.returns-in_err-next-in-None-clause-lost
returns-in_err-next-in-None-clause-lost g c =
    on_err c.from_residual-in_err-next-in-None.result
    (lost_of (IsAnyRound c.args.id c.args.sight) (could_mark_round c.args.id c.args.sight)
    (both_lost (heard_as (Populated c.args.id) c.in-None.is (one c.in_ok-some.ensures.told))
    c.in_err-next-in-None.ensures.lost))

pub returns-in_ok-next-in-None-clause-made : goal.returns-in_ok-next-in-None-clause-made
returns-in_ok-next-in-None-clause-made g c =
    weaker (IsRound c.args.id c.args.sight c.in_ok-next-in-None.next)
    (no_group c.args.id c.args.sight c.in_ok-next-in-None.next)
    (both (heard_as (Populated c.args.id) c.in-None.is (one c.in_ok-some.ensures.told))
    c.in_ok-next-in-None.ensures.made)

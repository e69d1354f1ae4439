use Rattle.std.proofs.Common.{[], false}
use Rattle.smf_room.specs.Sweeps.{IsAnyMarkRound, IsMarkRound}
use Rattle.smf_room.specs.Tellings.{Marked}
use Rattle.smf_room.proofs.Hearing.{both, both_lost, lost_of, on_err, one, one_lost, stopped, weaker}
use Rattle.smf_room.proofs.Sweeping.{could_kill_marked, could_mark, mark_round}
use Rattle.smf_room.proofs.sweep.round_by_marks.Goals as goal

pub returns-in_err-marks-clause-lost : goal.returns-in_err-marks-clause-lost
returns-in_err-marks-clause-lost g c =
    on_err c.from_residual.result
    (lost_of (IsAnyMarkRound c.args.id c.args.sight) (could_mark c.args.id c.args.sight false [])
    (one_lost (Marked c.args.id false []) c.in_err-marks.ensures.lost))

pub returns-in_err-ours-clause-lost : goal.returns-in_err-ours-clause-lost
returns-in_err-ours-clause-lost g c =
    on_err c.from_residual-in_err-ours.result
    (stopped (IsAnyMarkRound c.args.id c.args.sight) (could_mark c.args.id c.args.sight c.in_ok-marks.marks.own c.in_ok-marks.marks.found.items)
    (one c.in_ok-marks.ensures.told))

pub returns-in_err-kill_found-clause-lost : goal.returns-in_err-kill_found-clause-lost
returns-in_err-kill_found-clause-lost g c =
    on_err c.from_residual-in_err-kill_found.result
    (lost_of (IsAnyMarkRound c.args.id c.args.sight)
    (could_kill_marked c.args.id c.args.sight c.in_ok-marks.marks.own c.in_ok-marks.marks.found.items
    c.in_ok-ours.ours.items c.in_ok-ours.ensures)
    (both_lost (one c.in_ok-marks.ensures.told) c.in_err-kill_found.ensures.lost))

pub returns-clause-made : goal.returns-clause-made
returns-clause-made g c =
    weaker (IsMarkRound c.args.id c.args.sight c.sight_of.result)
    (mark_round c.args.id c.args.sight c.sight_of.result c.in_ok-marks.marks.own c.in_ok-marks.marks.found.items
    c.in_ok-ours.ours.items c.in_ok-ours.ensures c.sight_of.ensures)
    (both (one c.in_ok-marks.ensures.told) c.in_ok-kill_found.ensures.done)

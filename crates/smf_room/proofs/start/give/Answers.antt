use Rattle.std.proofs.Common.{◌+◌}
use Rattle.smf_room.specs.declared.start.TheConstants.{BLOCK}
use Rattle.smf_room.specs.Starts.{IsAnyGiven, IsGiven}
use Rattle.smf_room.specs.Tellings.{Did, Done, NextIs, Reserved, deed}
use Rattle.smf_room.proofs.Hearing.{both, both_lost, lost_of, on_err, one, one_lost, stopped, weaker}
use Rattle.smf_room.proofs.Starting.{could_ask_next, could_reserve, takes_block}
use Rattle.smf_room.proofs.start.give.Goals as goal

pub returns-in_err-next-clause-lost : goal.returns-in_err-next-clause-lost
returns-in_err-next-clause-lost g c =
    on_err c.from_residual.result
    (lost_of (IsAnyGiven c.args.numbers) (could_ask_next c.args.numbers 0 c.if-low-high.false)
    (one_lost (NextIs 0) c.in_err-next.ensures.lost))

pub returns-then-next-clause-lost : goal.returns-then-next-clause-lost
returns-then-next-clause-lost g c =
    stopped (IsAnyGiven c.args.numbers) (could_ask_next c.args.numbers c.in_ok-next.next c.if-low-high.false)
    (one c.in_ok-next.ensures.told)

pub returns-in_err-reserve-clause-lost : goal.returns-in_err-reserve-clause-lost
returns-in_err-reserve-clause-lost g c =
    on_err c.from_residual-in_err-reserve.result
    (lost_of (IsAnyGiven c.args.numbers) (could_reserve c.args.numbers c.in_ok-next.next c.if-low-high.false)
    (both_lost (one c.in_ok-next.ensures.told)
    (one_lost (Did (deed (Reserved c.in_ok-next.next (c.in_ok-next.next + BLOCK)) Done)) c.in_err-reserve.ensures.lost)))

pub returns-clause-given : goal.returns-clause-given
returns-clause-given g c =
    weaker (IsGiven c.args.numbers _) (takes_block c.args.numbers c.in_ok-next.next c.if-low-high.false)
    (both (one c.in_ok-next.ensures.told) (one c.in_ok-reserve.ensures.told))

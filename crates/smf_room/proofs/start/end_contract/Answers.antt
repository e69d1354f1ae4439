use Rattle.smf_room.specs.Tellings.{AskedEnd, Did, Done, deed}
use Rattle.smf_room.proofs.Hearing.{call_fails, on_err, one}
use Rattle.smf_room.proofs.start.end_contract.Goals as goal

pub returns-in_err-done-clause-lost : goal.returns-in_err-done-clause-lost
returns-in_err-done-clause-lost g c =
    on_err c.from_residual.result
    (call_fails (Did (deed (AskedEnd c.args.id c.args.signal.now c.args.seconds) Done)) c.in_err-done.ensures.lost)

pub returns-clause-asked : goal.returns-clause-asked
returns-clause-asked g c = one c.in_ok-done.ensures.told

use Rattle.smf_room.specs.declared.token.Token.TheVariants.{Go, Void}
use Rattle.smf_room.specs.Tellings.{Did, Done, Renamed, deed}
use Rattle.smf_room.proofs.Hearing.{call_fails, on_err, one}
use Rattle.smf_room.proofs.look.cancel.Goals as goal

pub returns-clause-done : goal.returns-clause-done
returns-clause-done g c = one c.in_ok-done.ensures.told

pub returns-in_err-done-clause-lost : goal.returns-in_err-done-clause-lost
returns-in_err-done-clause-lost g c =
    on_err c.from_residual.result
    (call_fails (Did (deed (Renamed c.args.id Go Void) Done)) c.in_err-done.ensures.lost)

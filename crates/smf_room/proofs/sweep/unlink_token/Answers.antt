use Rattle.smf_room.specs.Sweeps.{IsUnlink}
use Rattle.smf_room.specs.Tellings.{Did, Done, Unlinked, deed}
use Rattle.smf_room.proofs.Hearing.{lost_of, on_err, one, one_lost, weaker}
use Rattle.smf_room.proofs.Sweeping.{could_unlink, unlinks}
use Rattle.smf_room.proofs.sweep.unlink_token.Goals as goal

pub returns-in_err-unlink-clause-lost : goal.returns-in_err-unlink-clause-lost
returns-in_err-unlink-clause-lost g c =
    on_err c.from_residual.result
    (lost_of (IsUnlink c.args.id c.args.token) (could_unlink c.args.id c.args.token c.in-Some.token c.in-Some.is)
    (one_lost (Did (deed (Unlinked c.args.id c.in-Some.token) Done)) c.in_err-unlink.ensures.lost))

pub returns-in_ok-unlink-clause-done : goal.returns-in_ok-unlink-clause-done
returns-in_ok-unlink-clause-done g c =
    weaker (IsUnlink c.args.id c.args.token) (unlinks c.args.id c.args.token c.in-Some.token c.in-Some.is)
    (one c.in_ok-unlink.ensures.told)

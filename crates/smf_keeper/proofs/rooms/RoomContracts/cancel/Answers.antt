use Rattle.std.proofs.Common.{true}
use Rattle.smf_room.specs.Looks.{IsCancel}
use Rattle.smf_room.proofs.Living.{calm_cancel}
use Rattle.smf_keeper.proofs.Made.{calm_none, fails_none, same_made}
use Rattle.smf_keeper.proofs.rooms.RoomContracts.cancel.Goals as goal

pub returns-in_err-_cancelled-clause-made : goal.returns-in_err-_cancelled-clause-made
returns-in_err-_cancelled-clause-made g c =
    same_made
    (fails_none (IsCancel c.args.held.now.id true) (λ ts h. calm_none ts (calm_cancel c.args.held.now.id true ts h)))
    c.in_err-_cancelled.ensures.lost

pub returns-clause-made : goal.returns-clause-made
returns-clause-made g c =
    same_made (λ ts h. calm_none ts (calm_cancel c.args.held.now.id c.in_ok-_cancelled._cancelled ts h))
    c.in_ok-_cancelled.ensures.done

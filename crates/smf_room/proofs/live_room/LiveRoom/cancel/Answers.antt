use Rattle.std.proofs.Common.{Bool, refl, true}
use Rattle.smf_room.specs.Looks.{IsCancel}
use Rattle.smf_room.specs.Tellings.{Fails}
use Rattle.smf_room.proofs.Living.{calm_cancel, calm_fails, goes_either}
use Rattle.smf_room.proofs.live_room.LiveRoom.cancel.Goals as goal

pub returns-clause-careful : goal.returns-clause-careful
returns-clause-careful g c =
    goes_either c.args.self.now
    (record {
      alloc = c.args.self.now.alloc;
      room = c.cancel.new.room;
      numbers = c.args.self.now.numbers;
      unsettled = c.args.self.now.unsettled;
    })
    (record { numbers = refl; unsettled = refl }) (λ (x : Bool). IsCancel c.args.id x) (Fails (IsCancel c.args.id true)) (calm_cancel c.args.id)
    (calm_fails (IsCancel c.args.id true) (calm_cancel c.args.id true)) c.cancel.result
    c.cancel.ensures.done c.cancel.ensures.lost

use Rattle.std.proofs.Common.{refl}
use Rattle.smf_room.specs.declared.look.Look.{Look}
use Rattle.smf_room.specs.Looks.{IsAnyLook, IsLook}
use Rattle.smf_room.specs.Tellings.{EndsEarly}
use Rattle.smf_room.proofs.Living.{calm_early, calm_look, goes_either}
use Rattle.smf_room.proofs.live_room.LiveRoom.look.Goals as goal

pub returns-clause-careful : goal.returns-clause-careful
returns-clause-careful g c =
    goes_either c.args.self.now
    (record {
      alloc = c.args.self.now.alloc;
      room = c.look_at.new.room;
      numbers = c.args.self.now.numbers;
      unsettled = c.args.self.now.unsettled;
    })
    (record { numbers = refl; unsettled = refl }) (λ (x : Look). IsLook c.args.id x) (EndsEarly (IsAnyLook c.args.id)) (calm_look c.args.id)
    (calm_early (IsAnyLook c.args.id) (λ ts h. calm_look c.args.id h.0 ts h.1)) c.look_at.result
    c.look_at.ensures.seen c.look_at.ensures.lost

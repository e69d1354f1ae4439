use Rattle.std.proofs.Common.{Bool, refl, true}
use Rattle.smf_room.specs.Starts.{IsEndAsk}
use Rattle.smf_room.specs.Tellings.{Fails}
use Rattle.smf_room.proofs.Living.{calm_end, calm_fails, goes_either}
use Rattle.smf_room.proofs.live_room.LiveRoom.end.Goals as goal

pub returns-clause-careful : goal.returns-clause-careful
returns-clause-careful g c =
    goes_either c.args.self.now
    (record {
      alloc = c.args.self.now.alloc;
      room = c.end_contract.new.room;
      numbers = c.args.self.now.numbers;
      unsettled = c.args.self.now.unsettled;
    })
    (record { numbers = refl; unsettled = refl })
    (λ (x : Bool). IsEndAsk c.args.id c.args.signal.now c.args.seconds x)
    (Fails (IsEndAsk c.args.id c.args.signal.now c.args.seconds true))
    (calm_end c.args.id c.args.signal.now c.args.seconds)
    (calm_fails (IsEndAsk c.args.id c.args.signal.now c.args.seconds true)
    (calm_end c.args.id c.args.signal.now c.args.seconds true)) c.end_contract.result
    c.end_contract.ensures.asked c.end_contract.ensures.lost

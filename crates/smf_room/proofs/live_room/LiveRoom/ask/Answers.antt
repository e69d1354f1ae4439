use Rattle.std.proofs.Common.{Bool, refl}
use Rattle.smf_room.specs.Starts.{IsAskLost, IsAsking}
use Rattle.smf_room.proofs.Living.{calm_ask_lost, calm_asking, goes_either}
use Rattle.smf_room.proofs.live_room.LiveRoom.ask.Goals as goal

pub returns-clause-careful : goal.returns-clause-careful
returns-clause-careful g c =
    goes_either c.args.self.now
    (record {
      alloc = c.args.self.now.alloc;
      room = c.ask.new.room;
      numbers = c.args.self.now.numbers;
      unsettled = c.args.self.now.unsettled;
    })
    (record { numbers = refl; unsettled = refl }) (λ (x : Bool). IsAsking c.args.id x) (IsAskLost c.args.id) (calm_asking c.args.id)
    (calm_ask_lost c.args.id) c.ask.result
    c.ask.ensures.asked c.ask.ensures.lost

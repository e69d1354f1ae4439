use Rattle.std.proofs.Common.{refl}
use Rattle.smf_room.specs.Sweeps.{IsAnyForget}
use Rattle.smf_room.proofs.Living.{calm_forget, forget_goes, goes_early}
use Rattle.smf_room.proofs.live_room.LiveRoom.forget.Goals as goal

pub returns-in_err-gone-clause-careful : goal.returns-in_err-gone-clause-careful
returns-in_err-gone-clause-careful g c =
    goes_early c.args.self.now
    (record {
      alloc = c.args.self.now.alloc;
      room = c.forget.new.room;
      numbers = c.args.self.now.numbers;
      unsettled = c.args.self.now.unsettled;
    })
    (record { numbers = refl; unsettled = refl }) (IsAnyForget c.args.id) (λ ts h. calm_forget c.args.id h.0 ts h.1)
    c.in_err-gone.ensures.lost

pub returns-clause-careful : goal.returns-clause-careful
returns-clause-careful g c =
    forget_goes c.args.self.now
    (record {
      alloc = c.args.self.now.alloc;
      room = c.forget.new.room;
      numbers = c.args.self.now.numbers;
      unsettled = c.drop_gone.new.unsettled;
    })
    c.args.id c.in_ok-gone.gone refl c.drop_gone.ensures c.in_ok-gone.ensures.done

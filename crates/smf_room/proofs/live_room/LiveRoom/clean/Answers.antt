use Rattle.std.proofs.Common.{Bool, ap, refl, ◌∙◌}
use Rattle.smf_room.specs.Beginnings.{IsAnyClean}
use Rattle.smf_room.specs.Clearings.{held_left}
use Rattle.smf_room.proofs.Living.{calm_clean, clean_goes, goes_early}
use Rattle.smf_room.proofs.live_room.LiveRoom.clean.Goals as goal

pub returns-in_err-stand-clause-careful : goal.returns-in_err-stand-clause-careful
returns-in_err-stand-clause-careful g c =
    goes_early c.args.self.now
    (record {
      alloc = c.args.self.now.alloc;
      room = c.clean.new.room;
      numbers = c.args.self.now.numbers;
      unsettled = c.args.self.now.unsettled;
    })
    (record { numbers = refl; unsettled = refl }) (IsAnyClean c.args.id) (λ ts h. calm_clean c.args.id h.0 ts h.1)
    c.in_err-stand.ensures.lost

pub returns-clause-careful : goal.returns-clause-careful
returns-clause-careful g c =
    clean_goes c.args.self.now
    (record {
      alloc = c.args.self.now.alloc;
      room = c.clean.new.room;
      numbers = c.args.self.now.numbers;
      unsettled = c.drop_gone.new.unsettled;
    })
    c.args.id c.in_ok-stand.stand refl
    (c.drop_gone.ensures ∙ ap (λ (b : Bool). held_left b c.args.id c.args.self.now.unsettled.items) c.is_gone.ensures)
    c.in_ok-stand.ensures.done

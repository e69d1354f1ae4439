use Rattle.std.proofs.Common.{List, ap, ◌∙◌}
use Rattle.smf_room.specs.declared.life.Found.{Found}
use Rattle.smf_room.specs.Beginnings.{IsAnyBeginning}
use Rattle.smf_room.specs.Carefuls.{held_of_all}
use Rattle.smf_room.proofs.Hearing.{on_err, stopped}
use Rattle.smf_room.proofs.Lifetimes.{begins_well, ends_well}
use Rattle.smf_room.proofs.Sweeping.{whole}
use Rattle.smf_room.proofs.live_room.LiveRoom.begin.Goals as goal

pub returns-in_err-found-clause-careful_lost : goal.returns-in_err-found-clause-careful_lost
returns-in_err-found-clause-careful_lost g c =
    on_err c.from_residual.result (c.begin_life.new.room, ends_well c.in_err-found.ensures.lost)

pub returns-in_err-unsettled-clause-lost : goal.returns-in_err-unsettled-clause-lost
returns-in_err-unsettled-clause-lost g c =
    on_err c.from_residual-in_err-unsettled.result (
      c.begin_life.new.room,
      stopped IsAnyBeginning (λ ts h. whole IsAnyBeginning ts (c.in_ok-found.found.items, h)) c.in_ok-found.ensures.begun,
    )

pub returns-in_err-unsettled-clause-careful_lost : goal.returns-in_err-unsettled-clause-careful_lost
returns-in_err-unsettled-clause-careful_lost g c =
    on_err c.from_residual-in_err-unsettled.result (
      c.begin_life.new.room,
      ends_well
          (stopped IsAnyBeginning (λ ts h. whole IsAnyBeginning ts (c.in_ok-found.found.items, h)) c.in_ok-found.ensures.begun),
    )

pub returns-clause-careful : goal.returns-clause-careful
returns-clause-careful g c =
    begins_well c.args.room
    (record {
      alloc = c.args.alloc;
      room = c.begin_life.new.room;
      numbers = c.none.result;
      unsettled = c.in_ok-unsettled.unsettled;
    })
    c.in_ok-found.found.items c.none.ensures
    (c.in_ok-unsettled.ensures ∙ ap (λ (x : List Found). held_of_all x) c.deref.ensures.value) c.in_ok-found.ensures.begun

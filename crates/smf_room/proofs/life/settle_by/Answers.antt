use Rattle.std.proofs.Common.{sym, subst}
use Rattle.smf_room.specs.declared.look.Look.{Look}
use Rattle.smf_room.specs.Beginnings.{IsAnySettlingBy, IsSettlingBy}
use Rattle.smf_room.specs.Tellings.{EndsEarly, Heard}
use Rattle.smf_room.proofs.Hearing.{on_err}
use Rattle.smf_room.proofs.life.settle_by.Goals as goal

pub returns-in_err-stand-in-Unclean-clause-lost : goal.returns-in_err-stand-in-Unclean-clause-lost
returns-in_err-stand-in-Unclean-clause-lost g c =
    on_err c.from_residual-in_err-stand-in-Unclean.result
    (subst
    (λ (x : Look). Heard g.R.Room.tells g.R.Room.did (EndsEarly (IsAnySettlingBy c.args.id x)) c.args.room.now c.clean.new.room)
    (sym c.in-Unclean.is) c.in_err-stand-in-Unclean.ensures.lost)

pub returns-in_ok-stand-in-Unclean-clause-done : goal.returns-in_ok-stand-in-Unclean-clause-done
returns-in_ok-stand-in-Unclean-clause-done g c =
    subst
    (λ (x : Look). Heard g.R.Room.tells g.R.Room.did (IsSettlingBy c.args.id x c.in_ok-stand-in-Unclean.stand)
    c.args.room.now c.clean.new.room)
    (sym c.in-Unclean.is) c.in_ok-stand-in-Unclean.ensures.done

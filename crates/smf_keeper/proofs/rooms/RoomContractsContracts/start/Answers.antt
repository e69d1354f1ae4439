use Rattle.std.proofs.Common.{inl, inr, sym}
use Rattle.smf_room.proofs.Hearing.{on_err}
use Rattle.smf_keeper.proofs.Made.{begun_one, refused_same, start_lost_same}
use Rattle.smf_keeper.proofs.Starting.{begun_as, if_err, made_for, refused_as}
use Rattle.smf_keeper.proofs.rooms.RoomContractsContracts.start.Goals as goal

pub returns-in_err-made-clause-failed : goal.returns-in_err-made-clause-failed
returns-in_err-made-clause-failed g c =
    if_err c.from_residual-in_err-made.result _
    (λ e. inr (c.args.self.now.room, c.start.new.self, c.in_ok-note.note, inr c.in_err-made.ensures.lost))

pub returns-in_err-made-clause-none : goal.returns-in_err-made-clause-none
returns-in_err-made-clause-none g c =
    on_err c.from_residual-in_err-made.result
    (start_lost_same g.R.Room.tells g.R.Room.did c.args.self.now.room c.start.new.self c.in_ok-note.note
    c.in_err-made.ensures.lost)

pub returns-in_err-made-clause-refused : goal.returns-in_err-made-clause-refused
returns-in_err-made-clause-refused g c =
    if_err c.from_residual-in_err-made.result _
    (λ e. inr (c.in_ok-note.note, c.in_ok-note.ensures, inr c.in_err-made.ensures.lost))

pub returns-in-Some-clause-started : goal.returns-in-Some-clause-started
returns-in-Some-clause-started g c =
    let a = c.args in
    made_for g.R.Room.tells g.R.Room.did a.self.now.room c.start.new.self a.start.now c.in_ok-note.note
    c.new.result.id c.in_ok-note.ensures
    (begun_as g.R.Room.tells g.R.Room.did a.self.now.room c.start.new.self c.in_ok-note.note c.in_ok-made.made c.in-Some.id
    c.new.result.id (sym c.new.ensures.id) c.in-Some.is c.in_ok-made.ensures.started)

pub returns-in-Some-clause-one : goal.returns-in-Some-clause-one
returns-in-Some-clause-one g c =
    begun_one g.R.Room.tells g.R.Room.did c.args.self.now.room c.start.new.self c.in_ok-note.note c.new.result.id
    (begun_as g.R.Room.tells g.R.Room.did c.args.self.now.room c.start.new.self c.in_ok-note.note c.in_ok-made.made
    c.in-Some.id c.new.result.id (sym c.new.ensures.id) c.in-Some.is c.in_ok-made.ensures.started)

pub returns-in-Some-clause-begun : goal.returns-in-Some-clause-begun
returns-in-Some-clause-begun g c = (
  c.in_ok-note.note,
  c.in_ok-note.ensures,
  begun_as g.R.Room.tells g.R.Room.did c.args.self.now.room c.start.new.self c.in_ok-note.note c.in_ok-made.made
      c.in-Some.id c.new.result.id (sym c.new.ensures.id) c.in-Some.is c.in_ok-made.ensures.started,
)

pub returns-clause-failed : goal.returns-clause-failed
returns-clause-failed g c =
    inr (
      c.args.self.now.room,
      c.start.new.self,
      c.in_ok-note.note,
      inl (refused_as g.R.Room.tells g.R.Room.did c.args.self.now.room c.start.new.self c.in_ok-note.note c.in_ok-made.made
          c.in-None.is c.in_ok-made.ensures.started),
    )

pub returns-clause-none : goal.returns-clause-none
returns-clause-none g c =
    refused_same g.R.Room.tells g.R.Room.did c.args.self.now.room c.start.new.self c.in_ok-note.note
    (refused_as g.R.Room.tells g.R.Room.did c.args.self.now.room c.start.new.self c.in_ok-note.note c.in_ok-made.made
    c.in-None.is c.in_ok-made.ensures.started)

pub returns-clause-refused : goal.returns-clause-refused
returns-clause-refused g c =
    inr (
      c.in_ok-note.note,
      c.in_ok-note.ensures,
      inl (refused_as g.R.Room.tells g.R.Room.did c.args.self.now.room c.start.new.self c.in_ok-note.note c.in_ok-made.made
          c.in-None.is c.in_ok-made.ensures.started),
    )

use Rattle.std.proofs.Common.{Some, None, sym, ◌∙◌}
use Rattle.smf_room.specs.Beginnings.{IsAnyOne, IsOne}
use Rattle.smf_room.specs.Tellings.{NoteIs}
use Rattle.smf_room.proofs.Beginning.{could_note, could_settle_one, gone_one, noted_one}
use Rattle.smf_room.proofs.Hearing.{both, both_lost, lost_of, on_err, one, one_lost, weaker}
use Rattle.smf_room.proofs.life.find_one.Goals as goal

pub returns-in_err-stand-clause-lost : goal.returns-in_err-stand-clause-lost
returns-in_err-stand-clause-lost g c =
    on_err c.from_residual.result
    (lost_of (IsAnyOne c.args.id) (could_settle_one c.args.id) c.in_err-stand.ensures.lost)

pub returns-then-is_gone-clause-done : goal.returns-then-is_gone-clause-done
returns-then-is_gone-clause-done g c =
    weaker (IsOne c.args.id None)
    (gone_one c.args.id c.in_ok-stand.stand (sym c.is_gone.ensures ∙ c.if-is_gone.true)) c.in_ok-stand.ensures.done

pub returns-in_err-note-clause-lost : goal.returns-in_err-note-clause-lost
returns-in_err-note-clause-lost g c =
    on_err c.from_residual-in_err-note.result
    (lost_of (IsAnyOne c.args.id) (could_note c.args.id c.in_ok-stand.stand (sym c.is_gone.ensures ∙ c.if-is_gone.false))
    (both_lost c.in_ok-stand.ensures.done (one_lost (NoteIs c.args.id None) c.in_err-note.ensures.lost)))

pub returns-clause-done : goal.returns-clause-done
returns-clause-done g c =
    weaker (IsOne c.args.id (Some (record { id = c.args.id; note = c.in_ok-note.note; stand = c.in_ok-stand.stand })))
    (noted_one c.args.id c.in_ok-stand.stand c.in_ok-note.note (sym c.is_gone.ensures ∙ c.if-is_gone.false))
    (both c.in_ok-stand.ensures.done (one c.in_ok-note.ensures.told))

use Rattle.std.proofs.lemmas.Result.{on_ok_weaker}
use Rattle.smf_chronicle.proofs.Noted.{knows_more}
use Rattle.smf_chronicle.proofs.tables.Tables.note.Goals as goal

pub returns : goal.returns
returns c =
    on_ok_weaker c.note_entry.result
    (λ noted told k there e. knows_more c.args.self.now _ told c.args.entry.now c.args.place noted k there e)
    c.note_entry.ensures

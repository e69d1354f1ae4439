use Rattle.smf_engine.proofs.Coverage.{beside_taken}
use Rattle.smf_engine.proofs.engine.take_in.Goals as goal

pub returns-clause-beside : goal.returns-clause-beside
returns-clause-beside c =
    beside_taken c.patch.result c.args.held.now c.patch.new.self c.args.looked.now c.note.new.looked
    c.as_slice-items.result.now c.args.changes.now.to c.requires c.in_ok-note.ensures.ok c.patch.ensures.ok
    c.patch.ensures.err

use Rattle.smf_dep.proofs.CiterPlaces.{noted}
use Rattle.smf_dep.proofs.index.note_at.Goals as goal

pub returns : goal.returns
returns c = noted c.args.name.now c.args.place c.args.found.now c.note.new.found c.in_ok-note.ensures

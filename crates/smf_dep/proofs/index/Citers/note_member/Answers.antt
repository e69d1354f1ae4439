use Rattle.smf_dep.proofs.CiterPlaces.{none_named}
use Rattle.smf_dep.proofs.index.Citers.note_member.Goals as goal

pub returns-in-None : goal.returns-in-None
returns-in-None c = none_named c.args.member.now c.args.place c.args.self.now c.in-None.is

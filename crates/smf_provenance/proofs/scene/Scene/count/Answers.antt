use Rattle.std.proofs.Common.{ap, ◌∙◌, length}
use Rattle.smf_provenance.proofs.Places.{member_count}
use Rattle.smf_provenance.proofs.scene.Scene.count.Goals as goal

pub returns : goal.returns
returns c = ap length c.items.ensures ∙ member_count c.args.self.now.items

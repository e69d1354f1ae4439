use Rattle.std.specs.Option.{option_copied}
use Rattle.smf_dep.specs.Members.{members}
use Rattle.smf_provenance.specs.Groups.{cited_if}
use Rattle.smf_provenance.proofs.Places.{one_more}
use Rattle.smf_provenance.proofs.scene.Scene.put_cited.Goals as goal

pub loop-place-preserved : goal.loop-place-preserved
loop-place-preserved c =
    one_more (cited_if c.args.entity.now) (members c.args.self.now.items) c.loop-place.place
    (option_copied c.member.result) c.loop-place.all c.put_if_cited.new.all _ c.member.ensures
    c.in_ok-put_if_cited.ensures c.loop-place.invariant

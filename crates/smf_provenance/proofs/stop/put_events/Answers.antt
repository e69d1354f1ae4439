use Rattle.std.specs.Option.{option_copied}
use Rattle.smf_dep.specs.Members.{members}
use Rattle.smf_provenance.specs.Stopped.{event_if}
use Rattle.smf_provenance.proofs.Places.{one_more}
use Rattle.smf_provenance.proofs.stop.put_events.Goals as goal

pub loop-place-preserved : goal.loop-place-preserved
loop-place-preserved c =
    one_more (event_if c.args.dependency.now c.args.base c.args.entity.now) (members c.args.scene.now.items)
    c.loop-place.place (option_copied c.member.result) c.loop-place.all c.put_if_cited.new.all _ c.member.ensures
    c.in_ok-put_if_cited.ensures c.loop-place.invariant

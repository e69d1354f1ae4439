use Rattle.std.proofs.Common.{◌≡◌, ◌++◌, drop}
use Rattle.std.specs.Prelude.{flat_map}
use Rattle.smf_dep.specs.Members.{members}
use Rattle.smf_provenance.specs.Stopped.{event_if}
use Rattle.smf_provenance.proofs.stop.put_events.Given as goal

abbrev pub invariant-loop-place : goal.invariant-loop-place
invariant-loop-place l =
    l.all ++ flat_map (event_if l.dependency l.base l.entity) (drop l.place (members l.scene.items))
    ≡ l.fn.all ++ flat_map (event_if l.dependency l.base l.entity) (members l.scene.items)

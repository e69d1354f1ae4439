use Rattle.std.proofs.Common.{◌≡◌, ◌++◌, drop}
use Rattle.std.specs.Prelude.{flat_map}
use Rattle.smf_dep.specs.Members.{members}
use Rattle.smf_provenance.specs.Groups.{cited_if}
use Rattle.smf_provenance.proofs.scene.Scene.put_cited.Given as goal

abbrev pub invariant-loop-place : goal.invariant-loop-place
invariant-loop-place l = l.all ++ flat_map (cited_if l.entity) (drop l.place (members l.self.items))
    ≡ l.fn.all ++ flat_map (cited_if l.entity) (members l.self.items)

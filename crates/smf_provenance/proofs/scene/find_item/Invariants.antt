use Rattle.std.proofs.Common.{◌≡◌, drop}
use Rattle.std.specs.Prelude.{find}
use Rattle.smf_engine.specs.Orders.{is_about}
use Rattle.smf_provenance.proofs.scene.find_item.Given as goal

abbrev pub invariant-loop-place : goal.invariant-loop-place
invariant-loop-place l = find (is_about l.instance) (drop l.place l.items) ≡ find (is_about l.instance) l.items

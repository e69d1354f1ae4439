use Rattle.std.proofs.Common.{◌≡◌}
use Rattle.std.specs.Vec.Iter.{into_iter_items}
use Rattle.smf_world.specs.Happens.{newest}
use Rattle.smf_machine.proofs.installation.take_views.Given as goal

abbrev pub invariant-loop-view : goal.invariant-loop-view
invariant-loop-view l = newest l.engine (into_iter_items l.view-iterator) ≡ newest l.fn.engine l.fn.views

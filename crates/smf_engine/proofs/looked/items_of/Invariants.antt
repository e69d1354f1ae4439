use Rattle.std.proofs.Common.{◌≡◌, ◌++◌, drop, map}
use Rattle.smf_engine.specs.Coverage.{as_seen}
use Rattle.smf_engine.proofs.looked.items_of.Given as goal

abbrev pub invariant-loop-instance : goal.invariant-loop-instance
invariant-loop-instance l = l.all.items ++ map (as_seen l.view.items) (drop l.instance-index l.instances)
    ≡ map (as_seen l.view.items) l.instances

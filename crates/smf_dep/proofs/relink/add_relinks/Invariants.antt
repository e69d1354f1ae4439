use Rattle.std.proofs.Common.{◌≡◌, ◌++◌, drop, map}
use Rattle.smf_dep.specs.Updates.{relink_of}
use Rattle.smf_dep.proofs.relink.add_relinks.Given as goal

abbrev pub invariant-loop-one : goal.invariant-loop-one
invariant-loop-one l = l.relinks.items ++ map (relink_of l.members) (drop l.one-index l.placed)
    ≡ l.fn.relinks.items ++ map (relink_of l.members) l.placed

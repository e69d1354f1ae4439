use Rattle.std.proofs.Common.{◌≡◌, ◌++◌}
use Rattle.std.specs.Vec.Iter.{into_iter_items}
use Rattle.smf_runs.specs.Reasons.{reasons_by_patterns}
use Rattle.smf_runs.proofs.patterns.reasons_by_patterns.Given as goal

abbrev pub invariant-loop-told : goal.invariant-loop-told
invariant-loop-told l = l.kept ++ reasons_by_patterns l.patterns (into_iter_items l.told-iterator)
    ≡ reasons_by_patterns l.patterns l.fn.all

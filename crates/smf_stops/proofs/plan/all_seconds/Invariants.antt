use Rattle.std.proofs.Common.{◌≡◌, drop}
use Rattle.std.specs.Prelude.{fold}
use Rattle.smf_stops.specs.Plan.{added, all_seconds}
use Rattle.smf_stops.proofs.plan.all_seconds.Given as goal

abbrev pub invariant-loop-batch : goal.invariant-loop-batch
invariant-loop-batch l = fold (λ seconds b. added seconds b.seconds) l.seconds (drop l.batch-index l.batches)
    ≡ all_seconds l.batches

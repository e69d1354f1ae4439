use Rattle.std.proofs.Common.{◌≡◌, drop}
use Rattle.std.specs.Prelude.{fold}
use Rattle.smf_stops.specs.Plan.{longer, most_seconds}
use Rattle.smf_stops.proofs.plan.most_seconds.Given as goal

abbrev pub invariant-loop-stop : goal.invariant-loop-stop
invariant-loop-stop l = fold (λ seconds s. longer seconds s.seconds) l.seconds (drop l.stop-index l.stops)
    ≡ most_seconds l.stops

use Rattle.std.proofs.Common.{◌≡◌, ◌++◌, drop}
use Rattle.std.specs.Prelude.{flat_map}
use Rattle.smf_restarter.specs.Runs.{listed_run}
use Rattle.smf_restarter.proofs.answers.all_listed.Given as goal

abbrev pub invariant-loop-status : goal.invariant-loop-status
invariant-loop-status l =
    let run = listed_run l.restarter.known in
    l.all ++ flat_map run (drop l.status-index l.statuses) ≡ flat_map run l.statuses

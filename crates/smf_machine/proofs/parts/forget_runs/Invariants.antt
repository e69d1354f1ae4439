use Rattle.std.proofs.Common.{◌≡◌, ◌++◌, map, take, drop}
use Rattle.smf_machine.specs.Parts.{knowledge}
use Rattle.smf_restarter.specs.Forgotten.{without_past_runs}
use Rattle.smf_machine.proofs.parts.forget_runs.Given as goal

abbrev pub invariant-loop-restarter : goal.invariant-loop-restarter
invariant-loop-restarter l =
    map knowledge l.restarters
    ≡ map without_past_runs (take l.restarter-index (map knowledge l.initial.restarters))
    ++ drop l.restarter-index (map knowledge l.initial.restarters)

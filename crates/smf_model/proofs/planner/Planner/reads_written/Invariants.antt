use Rattle.std.proofs.Common.{◌≡◌, ◌++◌, drop}
use Rattle.smf_model.specs.Copied.{reads_written}
use Rattle.smf_model.specs.Look.{groups_of}
use Rattle.smf_model.proofs.planner.Planner.reads_written.Given as goal

abbrev pub invariant-loop-entry : goal.invariant-loop-entry
invariant-loop-entry l =
    l.all ++ reads_written (groups_of l.self) (drop l.entry-index l.entries)
    ≡ reads_written (groups_of l.self) l.entries

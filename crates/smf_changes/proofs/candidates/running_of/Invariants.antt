use Rattle.std.proofs.Common.{◌≡◌, ◌++◌, filter, map, drop}
use Rattle.smf_model.specs.Look.{bare}
use Rattle.smf_changes.specs.Candidates.{numbers_where, runs_of}
use Rattle.smf_changes.proofs.candidates.running_of.Given as goal

abbrev pub invariant-loop-entry : goal.invariant-loop-entry
invariant-loop-entry g l =
    l.all.items ++ map (λ i. i.number) (filter (runs_of l.plain.held l.number) (bare (drop l.entry-index l.entries)))
    ≡ numbers_where (runs_of l.plain.held l.number) l.plain.held

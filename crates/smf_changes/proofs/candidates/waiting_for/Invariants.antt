use Rattle.std.proofs.Common.{◌≡◌, ◌++◌, filter, map, drop}
use Rattle.smf_model.specs.Look.{bare}
use Rattle.smf_changes.specs.Candidates.{numbers_where, waits_for}
use Rattle.smf_changes.proofs.candidates.waiting_for.Given as goal

abbrev pub invariant-loop-entry : goal.invariant-loop-entry
invariant-loop-entry g l =
    l.all.items ++ map (λ i. i.number)
    (filter (waits_for l.plain.held l.snapshot) (bare (drop l.entry-index l.entries)))
    ≡ numbers_where (waits_for l.plain.held l.snapshot) l.plain.held

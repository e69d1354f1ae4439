use Rattle.std.proofs.Common.{◌≡◌, ◌++◌, filter, map, drop}
use Rattle.smf_model.specs.Look.{bare}
use Rattle.smf_model.specs.Next.{is_instance_of}
use Rattle.smf_changes.specs.Candidates.{of_service}
use Rattle.smf_changes.proofs.candidates.of_service.Given as goal

abbrev pub invariant-loop-entry : goal.invariant-loop-entry
invariant-loop-entry g l =
    l.all.items ++ map (λ i. i.number) (filter (is_instance_of l.service) (bare (drop l.entry-index l.entries)))
    ≡ of_service l.plain.held l.service

use Rattle.smf_export.specs.Configured.{SameService}
use Rattle.smf_export.proofs.Looked.{IsUpTo}
use Rattle.smf_export.proofs.comparison.Comparison.are_same_services.Given as goal

abbrev pub invariant-loop-service : goal.invariant-loop-service
invariant-loop-service l = IsUpTo (λ s. SameService l.self s.name) l.services l.service-index

use Rattle.smf_export.specs.Configured.{SameInstance}
use Rattle.smf_export.proofs.Looked.{IsUpTo}
use Rattle.smf_export.proofs.comparison.Comparison.are_same_instances.Given as goal

abbrev pub invariant-loop-entry : goal.invariant-loop-entry
invariant-loop-entry l = IsUpTo (λ e. SameInstance l.self e.name) l.names l.entry-index

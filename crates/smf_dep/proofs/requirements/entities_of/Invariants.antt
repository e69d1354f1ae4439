use Rattle.std.proofs.Common.{◌≡◌, drop}
use Rattle.smf_dep.specs.Requirements.{behind, entities_of}
use Rattle.smf_dep.proofs.requirements.entities_of.Given as goal

abbrev pub invariant-loop-value : goal.invariant-loop-value
invariant-loop-value l = behind l.entities (entities_of (drop l.value-index l.values)) ≡ entities_of l.values

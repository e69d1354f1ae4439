use Rattle.std.proofs.Common.{◌≡◌, drop}
use Rattle.smf_node.specs.FoundContracts.{are_fit}
use Rattle.smf_node.proofs.found_contracts.are_fit.Given as goal

abbrev pub invariant-loop-one : goal.invariant-loop-one
invariant-loop-one l = are_fit l.before l.last (drop l.one-index l.found) ≡ are_fit 0 l.last l.found

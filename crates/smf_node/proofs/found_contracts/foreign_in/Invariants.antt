use Rattle.std.proofs.Common.{◌≡◌, drop}
use Rattle.smf_node.specs.FoundContracts.{first_foreign}
use Rattle.smf_node.proofs.found_contracts.foreign_in.Given as goal

abbrev pub invariant-loop-one : goal.invariant-loop-one
invariant-loop-one g l =
    first_foreign l.repository.held (drop l.one-index l.found) ≡ first_foreign l.repository.held l.found

use Rattle.std.proofs.Common.{◌≡◌, ◌+◌, drop}
use Rattle.smf_value.specs.Names.{rest_wrong}
use Rattle.smf_value.proofs.name.rest_wrong.Given as goal

abbrev pub invariant-loop-b : goal.invariant-loop-b
invariant-loop-b l =
    record { at_index : l.at ≡ l.b-index + 1; rest : rest_wrong 1 l.rest ≡ rest_wrong l.at (drop l.b-index l.rest) }

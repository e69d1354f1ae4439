use Rattle.std.proofs.Common.{◌≡◌, drop}
use Rattle.smf_method.proofs.TokenSteps.{IsScanned}
use Rattle.smf_method.proofs.tokens.wrong_token.Given as goal

abbrev pub invariant-loop-b : goal.invariant-loop-b
invariant-loop-b l =
    record { at_index : l.at ≡ l.b-index; scanned : IsScanned l.bytes l.percent l.at (drop l.b-index l.bytes) }

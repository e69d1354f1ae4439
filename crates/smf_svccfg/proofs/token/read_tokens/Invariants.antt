use Rattle.std.proofs.Common.{◌≡◌, drop}
use Rattle.smf_svccfg.proofs.TokenReads.{IsRead}
use Rattle.smf_svccfg.proofs.token.read_tokens.Given as goal

abbrev pub invariant-loop-b : goal.invariant-loop-b
invariant-loop-b l =
    record { at_index : l.at ≡ l.b-index; read : IsRead l.fn.line l.reader l.at (drop l.b-index l.fn.line) }

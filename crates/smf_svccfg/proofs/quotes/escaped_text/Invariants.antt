use Rattle.std.proofs.Common.{◌≡◌, ◌++◌, drop}
use Rattle.smf_svccfg.specs.Tokens.{escaped_text}
use Rattle.smf_svccfg.proofs.quotes.escaped_text.Given as goal

abbrev pub invariant-loop-b : goal.invariant-loop-b
invariant-loop-b l = l.all.items ++ escaped_text (drop l.b-index l.bytes) ≡ escaped_text l.bytes

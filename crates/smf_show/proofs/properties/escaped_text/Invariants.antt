use Rattle.std.proofs.Common.{◌≡◌, ◌++◌, drop}
use Rattle.smf_show.specs.Properties.{escaped_text}
use Rattle.smf_show.proofs.properties.escaped_text.Given as goal

abbrev pub invariant-loop-b : goal.invariant-loop-b
invariant-loop-b l = l.all.items ++ escaped_text (drop l.b-index l.bytes) ≡ escaped_text l.bytes

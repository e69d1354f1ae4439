use Rattle.std.proofs.Common.{◌≡◌, true, drop}
use Rattle.smf_svccfg.specs.Lines.{are_components}
use Rattle.smf_svccfg.proofs.arguments.is_service_text.Given as goal

abbrev pub invariant-loop-b : goal.invariant-loop-b
invariant-loop-b l = are_components l.begins (drop l.b-index l.bytes) ≡ are_components true l.bytes

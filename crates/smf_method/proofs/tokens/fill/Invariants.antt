use Rattle.std.proofs.Common.{drop, string_bytes}
use Rattle.smf_method.specs.Tokens.{names_of}
use Rattle.smf_method.proofs.TokenSteps.{IsFilled}
use Rattle.smf_method.proofs.tokens.fill.Given as goal

abbrev pub invariant-loop-b : goal.invariant-loop-b
invariant-loop-b l =
    IsFilled (names_of l.restarter l.method l.instance) l.bytes (string_bytes l.text) l.is_behind_percent
    (drop l.b-index l.bytes)

use Rattle.std.proofs.Common.{◌≡◌, map, flat_map, string_bytes}
use Rattle.smf_ask.specs.Answers.{line_if}
use Rattle.smf_ask.proofs.answer.lines_if.Given as goal

abbrev pub invariant-loop-line : goal.invariant-loop-line
invariant-loop-line l = string_bytes l.out ≡ flat_map (line_if l.refused) (map (λ x. x.now) l.yielded)

use Rattle.std.proofs.Common.{◌≡◌, ◌++◌, drop, string_bytes}
use Rattle.std.specs.List.{flat_map}
use Rattle.smf_runs.specs.Reasons.{missed_text}
use Rattle.smf_runs.proofs.patterns.put_missed.Given as goal

abbrev pub invariant-loop-word : goal.invariant-loop-word
invariant-loop-word l = string_bytes l.out ++ flat_map missed_text (drop l.word-index l.words)
    ≡ string_bytes l.fn.out ++ flat_map missed_text l.words

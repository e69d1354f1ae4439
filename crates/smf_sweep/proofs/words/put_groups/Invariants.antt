use Rattle.std.proofs.Common.{◌≡◌, ◌++◌, drop, string_bytes}
use Rattle.std.specs.List.{flat_map}
use Rattle.smf_sweep.specs.Words.{group_text}
use Rattle.smf_sweep.proofs.words.put_groups.Given as goal

abbrev pub invariant-loop-process : goal.invariant-loop-process
invariant-loop-process l = string_bytes l.out ++ flat_map group_text (drop l.process-index l.left)
    ≡ string_bytes l.fn.out ++ flat_map group_text l.left

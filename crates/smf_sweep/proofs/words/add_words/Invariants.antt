use Rattle.std.proofs.Common.{◌≡◌, ◌++◌}
use Rattle.std.specs.Process.{SameEnv, args_left, command_args, command_program}
use Rattle.smf_sweep.proofs.words.add_words.Given as goal

abbrev pub invariant-loop-word : goal.invariant-loop-word
invariant-loop-word g l =
    (command_args l.program ++ args_left l.word-iterator ≡ command_args l.fn.program ++ command_args l.command)
    × ((command_program l.program ≡ command_program l.fn.program) × SameEnv l.fn.program l.program)

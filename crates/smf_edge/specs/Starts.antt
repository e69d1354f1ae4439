-- Logs, and the log of the starts that a system was asked for.
use Rattle.std.specs.Prelude.{◌≡◌, ◌⊎◌, ℕ, List, [], ◌∷◌, ◌++◌, Bool, true, false, codes, Option, option_map}
use Rattle.std.specs.List.{AllByRecursion}
use Rattle.std.specs.Process.{clears_env, command_args, command_program}
use Rattle.std.specs.declared.alloc.Global.{Global}
use Rattle.std.specs.declared.process.Command.{Command}
use Rattle.smf_edge.specs.Ends.{group_kill}

-- the words of a program that was to be started, whether no variable is handed on to it, and whether a process of it was
-- made
pub record StartedProgram : Type 0 where
  pub program : List ℕ
  pub args : List (List ℕ)
  pub clears : Bool
  pub made : Bool

abbrev pub started_program : Command Global → Bool → StartedProgram
started_program c made =
    record { program = command_program c; args = command_args c; clears = clears_env c; made = made }

-- the log with these more, if it is known
abbrev pub log_with : {A : Type 0} → List A → Option (List A) → Option (List A)
log_with more old = option_map (λ first. first ++ more) old

-- the log with one start more
abbrev pub log_with_start : Command Global → Bool → Option (List StartedProgram) → Option (List StartedProgram)
log_with_start program made old = log_with (started_program program made ∷ []) old

-- No process was made since: nothing was started, or the start of one such program failed.
abbrev pub MadeNone : (Command Global → Type 0) → Option (List StartedProgram) → Option (List StartedProgram) → Type 0
MadeNone IsRun old new =
    (new ≡ old) ⊎ ((program : Command Global) × (IsRun program) × (new ≡ log_with_start program false old))

-- it kills a group of which this holds
abbrev pub IsKillOf : (ℕ → Type 0) → StartedProgram → Type 0
IsKillOf Of start =
    (group : ℕ) × (Of group)
    × (start.program ≡ codes "/bin/sh")
    × (start.args ≡ group_kill group)
    × (start.clears ≡ true)

-- all that was started since are killers of groups of which this holds
abbrev pub OnlyKills : (ℕ → Type 0) → Option (List StartedProgram) → Option (List StartedProgram) → Type 0
OnlyKills Of old new = (more : List StartedProgram) × (new ≡ log_with more old) × AllByRecursion (IsKillOf Of) more

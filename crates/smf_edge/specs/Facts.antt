-- The facts that the calls of a system find of its processes.
use Rattle.std.specs.Prelude.{ℕ, ◌⊎◌, Option}
use Rattle.std.specs.declared.alloc.Global.{Global}
use Rattle.std.specs.declared.process.Command.{Command}
use Rattle.std.specs.declared.process.ExitStatus.{ExitStatus}
use Rattle.std_io.specs.declared.io.error.Error.{Error}
use Rattle.smf_edge.specs.Ends.{StartRefused}

pub record Facts (C : Type 0) : Type 1 where
  -- how the process ended, once that was told
  pub status : C → Option ExitStatus
  -- a start of this program made the process
  pub is_of : Command Global → C → Type 0
  -- a start failed so
  pub start_fails : Error → Type 0
  pub is_number : C → ℕ → Type 0
  -- the process was asked or waited for, and ended so
  pub has_ended : C → ExitStatus → Type 0
  -- the process was asked, and had not ended
  pub is_running : C → Type 0
  -- the process was asked or waited for, and the system did not answer
  pub is_lost : C → Type 0
  -- the system took a kill of the process
  pub is_killed : C → Type 0
  -- the system did not take a kill of the process
  pub kill_fails : C → Type 0

-- a start of this program made a process, and the process ended
abbrev pub HasRun : {C : Type 0} → Facts C → Command Global → Type 0
HasRun {C} facts program = (c : C) × (facts.is_of program c) × (s : ExitStatus) × facts.has_ended c s

-- A start failed, and not for want of memory. Or it made a process of this program, and the system did not say how that
-- ended.
abbrev pub HasNotRun : {C : Type 0} → Facts C → Command Global → Type 0
HasNotRun {C} facts program =
    StartRefused facts.start_fails
    ⊎ ((c : C) × (facts.is_of program c) × facts.is_lost c)

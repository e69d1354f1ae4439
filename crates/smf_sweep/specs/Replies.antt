-- The questions that a system is asked about what an older run left, and its answers.
use Rattle.std.specs.Prelude.{ℕ, List, Option}
use Rattle.smf_sweep.specs.declared.child.Child.{Child}
use Rattle.smf_sweep.specs.declared.process.Process.{Process}

pub data Telling : Type 0 where
  -- the system has this boot
  Booted : List ℕ → Telling
  -- there is no file of this path, or it holds this
  Listed : List ℕ → Option (List ℕ) → Telling
  -- these processes have the number or the session of one of these children
  Looked : List Child → List Process → Telling
  -- the groups of these processes were told to end
  Ended : List Process → Telling
  -- a file of this path is there, and is empty
  Emptied : List ℕ → Telling
  -- no file of this path is there any more
  Removed : List ℕ → Telling
  -- the system did not answer
  NoAnswer : Telling

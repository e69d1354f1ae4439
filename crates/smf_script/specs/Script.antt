-- The effect of a script of lines.
use Rattle.std.specs.Prelude.{◌≡◌, ◌≤◌, ℕ, ◌+◌, List, [], ◌++◌, ◌&&◌, Bool, true, false, Option}
use Rattle.std.specs.Io.KnownBytes.{Appends}
use Rattle.smf_lines.specs.declared.limits.TheConstants.{MAX_LINES}
use Rattle.smf_lines.specs.Faults.{count_after}
use Rattle.smf_lines.specs.Lines.{counts_of}
use Rattle.smf_script.specs.Session.{Effect, Session}
use Rattle.smf_script.specs.declared.fault.ScriptFault.{ScriptFault}
use Rattle.smf_script.specs.declared.fault.ScriptFault.TheVariants.{Node, Lines, Output}
use Rattle.smf_svccfg.specs.declared.selection.Selection.TheVariants.{Nothing}
use Rattle.smf_world.specs.Schedule.{Progress}

-- a script begins with nothing selected
abbrev pub first_session : Progress → Session
first_session p = record { progress = p; selection = Nothing }

-- one effect, and another on what it left
abbrev pub effect_of_both : Effect → Effect → Effect
effect_of_both e f = record { session = f.session; text = e.text ++ f.text; fine = e.fine && f.fine }

-- a session in which nothing was said yet
abbrev pub silent : Session → Effect
silent s = record { session = s; text = []; fine = true }

-- the status of a script: 1 if a line failed
abbrev pub status_of : Bool → ℕ
status_of true = 0
status_of false = 1

-- the most lines of a script
abbrev pub max_lines : ℕ
max_lines = MAX_LINES

-- a script came to its end: the node and the status are what its lines give, and their text and nothing else was
-- written
pub record Ends (e : Effect) (after : Progress) (old new : Option (List ℕ)) (status : ℕ) : Type 0 where
  pub node : after ≡ e.session.progress
  pub text : Appends old new e.text
  pub exit : status ≡ status_of e.fine

-- the lines, and the reads that were interrupted between these counts of them, are no more than there may be
pub record IsWithin (lines : List (List ℕ)) (before after : ℕ) : Type 0 where
  pub interrupted : ℕ
  pub heard : after ≡ count_after before interrupted
  pub within : counts_of lines + interrupted ≤ max_lines

-- nothing is said of what a writer that failed has taken
abbrev pub Wrote : ScriptFault → Effect → Option (List ℕ) → Option (List ℕ) → Type 0
Wrote (Node fault) e old new = Appends old new e.text
Wrote (Lines fault) e old new = Appends old new e.text
Wrote (Output fault) e old new = Unit {0}

-- With which faults a script may end.
use Rattle.std.specs.Prelude.{ℕ, Bool, Result, Ok, Err}
use Rattle.std_io.specs.declared.io.error.Error.{Error}
use Rattle.smf_lines.specs.Faults as reads
use Rattle.smf_model.specs.declared.journal.RepoFault.{RepoFault}
use Rattle.smf_model.specs.declared.journal.RepoFault.TheVariants as journals
use Rattle.smf_node.specs.declared.fault.NodeFault.{NodeFault}
use Rattle.smf_node.specs.declared.fault.NodeFault.TheVariants.{Memory, Database, Limit, NoSuchMessage, NoSuchActor}
use Rattle.smf_script.specs.declared.fault.ScriptFault.{ScriptFault}
use Rattle.smf_script.specs.declared.fault.ScriptFault.TheVariants.{Node, Lines, Output}

-- too many lines are more than there may be: lines and interrupted reads together
abbrev pub IsPast : ScriptFault → ℕ → ℕ → Type 0
IsPast (Node fault) most counted = Unit {0}
IsPast (Lines fault) most counted = reads.IsPast fault most counted
IsPast (Output fault) most counted = Unit {0}

-- as many reads as the fault says were interrupted, if it is of too many lines
abbrev pub Tells : ScriptFault → ℕ → ℕ → Type 0
Tells (Node fault) before after = Unit {0}
Tells (Lines fault) before after = reads.Tells fault before after
Tells (Output fault) before after = Unit {0}

-- a read has failed, after this fault
abbrev pub failed_by : ScriptFault → Bool → Bool
failed_by (Node fault) before = before
failed_by (Lines fault) before = reads.failed_by fault before
failed_by (Output fault) before = before

abbrev pub failed_in : {T : Type 0} → Result T ScriptFault → Bool → Bool
failed_in (Ok v) before = before
failed_in (Err e) before = failed_by e before

-- The faults of the node with which a script may stop. Memory ran out, the journal could not be written, or a launch or
-- a boot needs a number that has no next one.
abbrev pub MayStop : (RepoFault → Type 0) → NodeFault → Type 0
MayStop stores Memory = Unit {0}
MayStop stores Database = stores journals.Database
MayStop stores Limit = Unit {0}
MayStop stores NoSuchMessage = ⊥
MayStop stores NoSuchActor = ⊥

-- The reason why a script ended. The node failed, as a script may stop. The reader or the writer failed, with an error
-- that it may have. Or there were too many lines.
abbrev pub IsWhy : (RepoFault → Type 0) → (Error → Type 0) → (Error → Type 0) → ScriptFault → Type 0
IsWhy stores reader writes (Node fault) = MayStop stores fault
IsWhy stores reader writes (Lines fault) = reads.IsUnread reader fault
IsWhy stores reader writes (Output e) = writes e

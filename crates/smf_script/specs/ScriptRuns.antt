-- The result of a script over a node and the children of its services.
use Rattle.std.specs.Prelude.{◌≡◌, ◌⊎◌, ℕ, List, [], ◌∷◌, ◌++◌, take, Bool, Option, IfSome}
use Rattle.std.specs.Io.KnownBytes.{Appends}
use Rattle.smf_edge.specs.Answers.{Skills, Seen}
use Rattle.smf_lines.specs.Lines.{counts_of, lines_of}
use Rattle.smf_model.specs.declared.journal.RepoFault.{RepoFault}
use Rattle.smf_node.specs.declared.fault.NodeFault.{NodeFault}
use Rattle.smf_node.specs.declared.fault.NodeFault.TheVariants.{Memory}
use Rattle.smf_script.specs.LineFailures.{LineFails}
use Rattle.smf_script.specs.Lines.{HasDone, effect}
use Rattle.smf_script.specs.declared.fault.ScriptFault.{ScriptFault}
use Rattle.smf_script.specs.declared.fault.ScriptFault.TheVariants.{Node, Lines, Output}
use Rattle.smf_script.specs.Faults.{IsPast}
use Rattle.smf_script.specs.Requests.{request_of}
use Rattle.smf_script.specs.Script.{Ends, Wrote, effect_of_both, max_lines, silent}
use Rattle.smf_script.specs.Session.{Effect, Session}
use Rattle.smf_world.specs.Schedule.{Progress}

-- these lines were done in turn after what was done before, each on what those before it left
abbrev pub Runs : Skills → List (List ℕ) → Effect → Seen → Seen → Effect → Type 0
Runs k [] before old new e = (e ≡ before) × (new ≡ old)
Runs k (line ∷ lines) before old new e =
    (one : Effect) × (mid : Seen) × HasDone k (request_of line) before.session old mid one
    × Runs k lines (effect_of_both before one) mid new e

-- A script came to its end. Lines were done, and if the bytes are known, these are all that there are. The node and the
-- status are what the lines gave, and their texts and nothing else was written.
pub record HasRun (k : Skills) (start : Session) (input : Option (List ℕ)) (old new : Seen) (after : Progress)
    (was is : Option (List ℕ)) (status : ℕ) : Type 0 where
  pub lines : List (List ℕ)
  pub effect : Effect
  pub ran : Runs k lines (silent start) old new effect
  pub known : IfSome input (λ bytes. lines ≡ lines_of bytes)
  pub ends : Ends effect after was is status

-- ---- what a fault leaves

-- the node failed at a line, or memory ran out before one was read
abbrev pub NodeLeaves : Skills → (RepoFault → Type 0) → NodeFault → Session → List (List ℕ) → Seen → Seen → Progress
    → Type 0
NodeLeaves k stores fault s behind old new after =
    ((fault ≡ Memory) × (after ≡ s.progress) × (new ≡ old))
    ⊎ ((line : List ℕ) × (rest : List (List ℕ)) × (behind ≡ line ∷ rest)
    × LineFails k stores (request_of line) s old new after fault)

-- else node and children are as the lines before left them
abbrev pub Leaves : Skills → (RepoFault → Type 0) → ScriptFault → Session → List (List ℕ) → Seen → Seen → Progress
    → Type 0
Leaves k stores (Node fault) s behind old new after = NodeLeaves k stores fault s behind old new after
Leaves k stores (Lines fault) s behind old new after = (after ≡ s.progress) × (new ≡ old)
Leaves k stores (Output fault) s behind old new after = (after ≡ s.progress) × (new ≡ old)

-- these are all lines of the bytes; too many are more than there may be
pub record IsSplit (bytes : List ℕ) (lines behind : List (List ℕ)) (fault : ScriptFault) : Type 0 where
  pub whole : lines_of bytes ≡ lines ++ behind
  pub past : IsPast fault max_lines (counts_of (lines ++ take 1 behind))

-- a script was ended by a fault: lines were done, and their texts were written
pub record Stops (k : Skills) (stores : RepoFault → Type 0) (fault : ScriptFault) (start : Session)
    (input : Option (List ℕ)) (old new : Seen) (after : Progress) (was is : Option (List ℕ)) : Type 0 where
  pub lines : List (List ℕ)
  pub behind : List (List ℕ)
  pub effect : Effect
  pub mid : Seen
  pub ran : Runs k lines (silent start) old mid effect
  pub left : Leaves k stores fault effect.session behind mid new after
  pub text : Wrote fault effect was is
  pub known : IfSome input (λ bytes. IsSplit bytes lines behind fault)

-- ---- one line

-- a line was done, and its text was written
pub record HasWritten (k : Skills) (line : List ℕ) (s left : Session) (old new : Seen) (was is : Option (List ℕ))
    (fine : Bool) : Type 0 where
  pub text : List ℕ
  pub did : HasDone k (request_of line) s old new (effect left fine text)
  pub put : Appends was is text

-- a line was done, and its text could not be written
pub record IsUnwritten (k : Skills) (line : List ℕ) (s : Session) (old new : Seen) (after : Progress) : Type 0 where
  pub effect : Effect
  pub did : HasDone k (request_of line) s old new effect
  pub left : after ≡ effect.session.progress

-- a line was ended by a fault, of the node or of the writer
abbrev pub IsCut : Skills → (RepoFault → Type 0) → ScriptFault → List ℕ → Session → Seen → Seen → Progress
    → Option (List ℕ) → Option (List ℕ) → Type 0
IsCut k stores (Node fault) line s old new after was is =
    LineFails k stores (request_of line) s old new after fault × (is ≡ was)
IsCut k stores (Output fault) line s old new after was is = IsUnwritten k line s old new after
IsCut k stores (Lines fault) line s old new after was is = ⊥

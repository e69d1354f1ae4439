-- The effect of lines of svccfg, one after another.
use Rattle.std.specs.Prelude.{◌≡◌, ◌⊎◌, ◌≤◌, ℕ, ◌+◌, List, [], ◌∷◌, ◌++◌, ◌&&◌, take, length, codes, Bool, true, false, if◌then◌else◌, Option, Some, None, IfSome, Result, Ok, Err}
use Rattle.std.specs.Io.KnownBytes.{Appends}
use Rattle.std_io.specs.declared.io.error.Error.{Error}
use Rattle.smf_lines.specs.declared.limits.TheConstants.{MAX_LINES}
use Rattle.smf_lines.specs.Faults.{count_after}
use Rattle.smf_lines.specs.Faults as reads
use Rattle.smf_lines.specs.Lines.{counts_of, lines_of, text_in}
use Rattle.smf_model.specs.declared.journal.RepoFault.{RepoFault}
use Rattle.smf_model.specs.declared.journal.RepoFault.TheVariants.{Memory}
use Rattle.smf_model.specs.Contents.{Holdings}
use Rattle.smf_model.specs.Refusals.{refusal}
use Rattle.smf_svccfg.specs.declared.selection.Selection.{Selection}
use Rattle.smf_svccfg.specs.declared.selection.Selection.TheVariants.{Nothing}
use Rattle.smf_svccfg.specs.Judged.{fault_text}
use Rattle.smf_script.specs.declared.cfg_fault.RunFault.{RunFault}
use Rattle.smf_script.specs.declared.cfg_fault.RunFault.TheVariants.{Lines, Repo, Output, Errors}
use Rattle.smf_script.specs.declared.cfg_fault.SessionFault.{SessionFault}
use Rattle.smf_script.specs.declared.cfg_fault.SessionFault.TheVariants as line_faults
use Rattle.smf_script.specs.declared.cfg_output.LineEnd.{LineEnd}
use Rattle.smf_script.specs.declared.cfg_output.Output.{Output as AnyOutput}
use Rattle.smf_script.specs.CfgLines.{Done, Place, at, ran}

-- the place that lines leave, their text, the messages about those that failed, and how they ended
pub record Effect : Type 0 where
  pub left : Place
  pub out : List ℕ
  pub errors : List ℕ
  pub end : LineEnd

-- ---- a line

abbrev pub fine : LineEnd
fine = record { is_fine = true; has_ended = false }

abbrev pub failure_end : LineEnd
failure_end = record { is_fine = false; has_ended = false }

abbrev pub end_after_output : AnyOutput → LineEnd
end_after_output output = record { is_fine = true; has_ended = output.has_ended }

-- the name of a program, words, and the end of a line
abbrev pub line_of : List ℕ → List ℕ → List ℕ
line_of program words = program ++ words ++ 10 ∷ []

abbrev pub svccfg_name : List ℕ
svccfg_name = codes "svccfg: "

abbrev pub bad_line : List ℕ
bad_line = line_of (codes "smf: ") (codes "bad line")

abbrev pub fails_with : Place → List ℕ → Effect
fails_with p text = record { left = p; out = []; errors = text; end = failure_end }

abbrev pub refusal_line : Option (List ℕ) → List ℕ
refusal_line None = []
refusal_line (Some words) = line_of svccfg_name words

-- the message about a line that failed
abbrev pub failure_text : SessionFault → List ℕ
failure_text (line_faults.Line fault) = line_of svccfg_name (fault_text fault)
failure_text (line_faults.Refused reply) = refusal_line (refusal reply)
failure_text (line_faults.Repo fault) = []

abbrev pub shown_by : Place → Result AnyOutput SessionFault → Effect
shown_by p (Ok output) =
    record { left = p; out = output.text; errors = []; end = end_after_output output }
shown_by p (Err fault) = fails_with p (failure_text fault)

abbrev pub effect_of_result : Done → Effect
effect_of_result d = shown_by d.left d.given

abbrev pub effect_of_text : Place → List ℕ → Effect
effect_of_text p text = effect_of_result (ran p text)

-- a line that is too long or no text is a bad one
abbrev pub effect_of : Place → Option (List ℕ) → Effect
effect_of p None = fails_with p bad_line
effect_of p (Some text) = effect_of_text p text

-- the effect of a line, which stands without its end
unfoldable pub effect : Place → List ℕ → Effect
effect p line = effect_of p (text_in line)

-- ---- lines

-- a run in which nothing was said yet
abbrev pub silent : Place → Effect
silent p = record { left = p; out = []; errors = []; end = fine }

abbrev pub end_behind : LineEnd → LineEnd → LineEnd
end_behind before after = record { is_fine = before.is_fine && after.is_fine; has_ended = after.has_ended }

-- one effect, and another on what it left
abbrev pub effect_sequence : Effect → Effect → Effect
effect_sequence e f =
    record { left = f.left; out = e.out ++ f.out; errors = e.errors ++ f.errors; end = end_behind e.end f.end }

-- the effect of a line after that of those before it; a line after the end of the session does nothing
abbrev pub line_on : Effect → List ℕ → Effect
line_on e l = if e.end.has_ended then e else effect_sequence e (effect e.left l)

-- the effect of more lines after that of others, each on what those before it left
unfoldable pub lines_on : Effect → List (List ℕ) → Effect
lines_on e [] = e
lines_on e (l ∷ ls) = lines_on (line_on e l) ls

unfoldable pub run : Place → List (List ℕ) → Effect
run p lines = lines_on (silent p) lines

-- a run begins with nothing selected
abbrev pub start_place : Holdings → Place
start_place h = at h Nothing

-- the status of a run: 1 if a line failed
abbrev pub status_of : Bool → ℕ
status_of true = 0
status_of false = 1

-- the most lines of a run
abbrev pub max_lines : ℕ
max_lines = MAX_LINES

-- a run came to its end: what is held and the status are what its lines give, and their texts and nothing else were
-- written
pub record Ends (e : Effect) (after : Holdings) (out_old out_new errors_old errors_new : Option (List ℕ))
    (status : ℕ) : Type 0 where
  pub held : after ≡ e.left.held
  pub out : Appends out_old out_new e.out
  pub errors : Appends errors_old errors_new e.errors
  pub exit : status ≡ status_of e.end.is_fine

-- these are all lines of the bytes, up to the end of the session
pub record AreAllOf (start : Place) (bytes : List ℕ) (lines : List (List ℕ)) : Type 0 where
  pub behind : List (List ℕ)
  pub whole : lines_of bytes ≡ lines ++ behind
  pub all : (behind ≡ []) ⊎ ((run start lines).end.has_ended ≡ true)

-- A reader's lines were done to their end. Lines were done in turn, no more than there may be; if the bytes are known,
-- these are all lines of them. What is held, the written texts and the status are what these lines give.
pub record HasRun (start : Place) (input : Option (List ℕ)) (after : Holdings)
    (out_old out_new errors_old errors_new : Option (List ℕ)) (status : ℕ) : Type 0 where
  pub lines : List (List ℕ)
  pub few : length lines ≤ max_lines
  pub known : IfSome input (λ bytes. AreAllOf start bytes lines)
  pub ends : Ends (run start lines) after out_old out_new errors_old errors_new status

-- the lines up to the session's end, with the reads interrupted from one count to the other, are at most `max_lines`
pub record IsWithin (start : Place) (lines : List (List ℕ)) (before after : ℕ) : Type 0 where
  pub first : List (List ℕ)
  pub behind : List (List ℕ)
  pub whole : lines ≡ first ++ behind
  pub all : (behind ≡ []) ⊎ ((run start first).end.has_ended ≡ true)
  pub interrupted : ℕ
  pub heard : after ≡ count_after before interrupted
  pub within : counts_of first + interrupted ≤ max_lines

-- ---- faults

-- too many lines are more than there may be
abbrev pub IsPast : RunFault → ℕ → ℕ → Type 0
IsPast (Lines fault) most count_after = reads.IsPast fault most count_after
IsPast (Repo fault) most count_after = Unit {0}
IsPast (Output fault) most count_after = Unit {0}
IsPast (Errors fault) most count_after = Unit {0}

-- nothing is said of what a writer that failed has taken
abbrev pub WroteOut : RunFault → Effect → Option (List ℕ) → Option (List ℕ) → Type 0
WroteOut (Lines fault) e old new = Appends old new e.out
WroteOut (Repo fault) e old new = Appends old new e.out
WroteOut (Output fault) e old new = Unit {0}
WroteOut (Errors fault) e old new = Appends old new e.out

abbrev pub WroteErrors : RunFault → Effect → Option (List ℕ) → Option (List ℕ) → Type 0
WroteErrors (Lines fault) e old new = Appends old new e.errors
WroteErrors (Repo fault) e old new = Appends old new e.errors
WroteErrors (Output fault) e old new = Appends old new e.errors
WroteErrors (Errors fault) e old new = Unit {0}

-- these are the first lines of the bytes; too many are more than there may be
pub record AreFirstOf (fault : RunFault) (bytes : List ℕ) (lines : List (List ℕ)) : Type 0 where
  pub behind : List (List ℕ)
  pub whole : lines_of bytes ≡ lines ++ behind
  pub past : IsPast fault max_lines (counts_of (lines ++ take 1 behind))

-- A fault ended a run. Lines were done in turn, no more than there may be, and their texts were written; if the bytes
-- are known, these are the first lines of them.
pub record Stops (fault : RunFault) (start : Place) (input : Option (List ℕ)) (after : Holdings)
    (out_old out_new errors_old errors_new : Option (List ℕ)) : Type 0 where
  pub lines : List (List ℕ)
  pub few : length lines ≤ max_lines
  pub known : IfSome input (λ bytes. AreFirstOf fault bytes lines)
  pub held : after ≡ (run start lines).left.held
  pub out : WroteOut fault (run start lines) out_old out_new
  pub errors : WroteErrors fault (run start lines) errors_old errors_new

-- why a run ended: the reader, the repository or a writer, with a fault that it may have
abbrev pub IsWhy : (Error → Type 0) → (RepoFault → Type 0) → (Error → Type 0) → (Error → Type 0) → RunFault → Type 0
IsWhy reader stores writes tells (Lines fault) = reads.IsUnread reader fault
IsWhy reader stores writes tells (Repo fault) = (fault ≡ Memory) ⊎ stores fault
IsWhy reader stores writes tells (Output e) = writes e
IsWhy reader stores writes tells (Errors e) = tells e

-- true if a read has failed, after a run that ended so
abbrev pub failed_by : RunFault → Bool → Bool
failed_by (Lines fault) before = reads.failed_by fault before
failed_by (Repo fault) before = before
failed_by (Output fault) before = before
failed_by (Errors fault) before = before

abbrev pub failed_in : {T : Type 0} → Result T RunFault → Bool → Bool
failed_in (Ok v) before = before
failed_in (Err e) before = failed_by e before

-- as many reads as the fault says were interrupted, if it is of too many lines
abbrev pub Tells : RunFault → ℕ → ℕ → Type 0
Tells (Lines fault) before after = reads.Tells fault before after
Tells (Repo fault) before after = Unit {0}
Tells (Output fault) before after = Unit {0}
Tells (Errors fault) before after = Unit {0}

-- ---- how calls do it

abbrev pub IsUnprinted : (Error → Type 0) → RunFault → Type 0
IsUnprinted fails (Output e) = fails e
IsUnprinted fails (Errors e) = ⊥
IsUnprinted fails (Lines fault) = ⊥
IsUnprinted fails (Repo fault) = ⊥

-- a complaint could not be written, or memory ran out before that
abbrev pub IsUnsaid : (Error → Type 0) → RunFault → Option (List ℕ) → Option (List ℕ) → Type 0
IsUnsaid fails (Errors e) old new = fails e
IsUnsaid fails (Repo fault) old new = (fault ≡ Memory) × (new ≡ old)
IsUnsaid fails (Lines fault) old new = ⊥
IsUnsaid fails (Output e) old new = ⊥

-- a line was done, and its texts were written
pub record IsWritten (e : Effect) (after : Holdings) (selection : Selection)
    (out_old out_new errors_old errors_new : Option (List ℕ)) (end : LineEnd) : Type 0 where
  pub left : e.left ≡ at after selection
  pub out : Appends out_old out_new e.out
  pub errors : Appends errors_old errors_new e.errors
  pub flag : end ≡ e.end

-- a line was ended by a fault of the repository or of a writer
abbrev pub IsCut : RunFault → Effect → Holdings → Holdings → Option (List ℕ) → Option (List ℕ) → Option (List ℕ)
    → Option (List ℕ) → Type 0
IsCut (Repo fault) e before after out_old out_new errors_old errors_new =
    (after ≡ before) × (out_new ≡ out_old) × (errors_new ≡ errors_old)
IsCut (Output fault) e before after out_old out_new errors_old errors_new =
    (after ≡ e.left.held) × Appends errors_old errors_new e.errors
IsCut (Errors fault) e before after out_old out_new errors_old errors_new =
    (after ≡ e.left.held) × Appends out_old out_new e.out
IsCut (Lines fault) e before after out_old out_new errors_old errors_new = ⊥

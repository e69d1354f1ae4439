-- The outcome of a line in a session, by the selection.
use Rattle.std.specs.Prelude.{◌≡◌, ◌⊎◌, ℕ, List, [], Bool, true, false, Result, Ok, Err}
use Rattle.smf_model.specs.declared.command.Command.TheVariants as commands
use Rattle.smf_model.specs.declared.command.Edit.{Edit}
use Rattle.smf_model.specs.declared.command.CommandReply.{CommandReply}
use Rattle.smf_model.specs.declared.journal.RepoFault.{RepoFault}
use Rattle.smf_model.specs.declared.journal.RepoFault.TheVariants.{Memory}
use Rattle.smf_model.specs.Contents.{Holdings}
use Rattle.smf_model.specs.Laws.{is_refusal}
use Rattle.smf_model.specs.Next.{next}
use Rattle.smf_svccfg.specs.declared.fault.CfgFault.{CfgFault}
use Rattle.smf_svccfg.specs.declared.selection.Judged.{Judged}
use Rattle.smf_svccfg.specs.declared.selection.Judged.TheVariants as judgements
use Rattle.smf_svccfg.specs.declared.selection.Selection.{Selection}
use Rattle.smf_svccfg.specs.declared.selection.Selection.TheVariants as selected
use Rattle.smf_svccfg.specs.Judged.{judgement_of}
use Rattle.smf_script.specs.declared.cfg_output.Output.{Output}
use Rattle.smf_script.specs.declared.cfg_fault.SessionFault.{SessionFault}
use Rattle.smf_script.specs.declared.cfg_fault.SessionFault.TheVariants.{Line, Refused, Repo}

-- the holdings, and the selection
pub record Place : Type 0 where
  pub held : Holdings
  pub selection : Selection

abbrev pub at : Holdings → Selection → Place
at h s = record { held = h; selection = s }

-- the place that a line leaves, and its output or its fault
pub record Done : Type 0 where
  pub left : Place
  pub given : Result Output SessionFault

-- a line that printed this, and after which the session goes on
abbrev pub output_of_text : List ℕ → Output
output_of_text text = record { text = text; has_ended = false }

-- one after which it does not
abbrev pub output_at_end : Output
output_at_end = record { text = []; has_ended = true }

abbrev pub success_at : Place → Output → Done
success_at p output = record { left = p; given = Ok output }

abbrev pub failure_at : Place → SessionFault → Done
failure_at p fault = record { left = p; given = Err fault }

-- ---- edits

-- if the edit is accepted, `after` becomes the selection
abbrev pub replied_by : Bool → Selection → Selection → Holdings → CommandReply → Done
replied_by true before after h reply = failure_at (at h before) (Refused reply)
replied_by false before after h reply = success_at (at h after) (output_of_text [])

abbrev pub result_of_reply : Selection → Selection → Holdings × CommandReply → Done
result_of_reply before after r = replied_by (is_refusal r.1) before after r.0 r.1

-- an edit is given to the repository
unfoldable pub result_of_edit : Place → Edit → Selection → Done
result_of_edit p edit after = result_of_reply p.selection after (next p.held (commands.Edit edit))

-- ---- lines

-- the outcome of a line that is judged so
unfoldable pub result_of_judgement : Place → Result Judged CfgFault → Done
result_of_judgement p (Ok judgements.Nothing) = success_at p (output_of_text [])
result_of_judgement p (Ok (judgements.Select found)) = success_at (at p.held found) (output_of_text [])
result_of_judgement p (Ok (judgements.Edit edit after)) = result_of_edit p edit after
result_of_judgement p (Ok (judgements.Print text)) = success_at p (output_of_text text)
result_of_judgement p (Ok judgements.End) = success_at (at p.held selected.Nothing) output_at_end
result_of_judgement p (Err fault) = failure_at p (Line fault)

-- the outcome of a line, which stands without its end
unfoldable pub ran : Place → List ℕ → Done
ran p line = result_of_judgement p (judgement_of p.held p.selection line)

-- ---- how calls do it

-- after a line, this is held and this is selected, and the line gave this
pub record IsDone (d : Done) (h : Holdings) (s : Selection) (given : Result Output SessionFault) : Type 0 where
  pub left : d.left ≡ at h s
  pub gives : d.given ≡ given

-- a line failed for its reason; nothing is said of a line that had no reply
abbrev pub IsUndone : Done → Holdings → Selection → SessionFault → Type 0
IsUndone d h s (Line fault) = IsDone d h s (Err (Line fault))
IsUndone d h s (Refused reply) = IsDone d h s (Err (Refused reply))
IsUndone d h s (Repo fault) = Unit {0}

-- ---- what becomes of the client

-- the client followed an edit that ended so
abbrev pub HasFollowed : {C : Type 0} → (C → Edit → Result CommandReply RepoFault → C → Type 0) → C → Edit → C
    → Result Output SessionFault → Type 0
HasFollowed follows before edit after (Ok output) = (reply : CommandReply) × follows before edit (Ok reply) after
HasFollowed follows before edit after (Err (Refused reply)) = follows before edit (Ok reply) after
HasFollowed follows before edit after (Err (Repo fault)) = follows before edit (Err fault) after
HasFollowed follows before edit after (Err (Line fault)) = ⊥

-- it needed no reply of the client
abbrev pub NeedsNone : Result Output SessionFault → Type 0
NeedsNone (Ok output) = Unit {0}
NeedsNone (Err (Line fault)) = Unit {0}
NeedsNone (Err (Refused reply)) = ⊥
NeedsNone (Err (Repo fault)) = ⊥

-- if the line is judged to be an edit, the client was given it; else nothing was asked of the client
abbrev pub IsGivenTo : {C : Type 0} → (C → Edit → Result CommandReply RepoFault → C → Type 0) → Result Judged CfgFault
    → C → C → Result Output SessionFault → Type 0
IsGivenTo follows (Ok (judgements.Edit edit next)) before after given = HasFollowed follows before edit after given
IsGivenTo follows (Ok judgements.Nothing) before after given = (after ≡ before) × NeedsNone given
IsGivenTo follows (Ok (judgements.Select found)) before after given = (after ≡ before) × NeedsNone given
IsGivenTo follows (Ok (judgements.Print text)) before after given = (after ≡ before) × NeedsNone given
IsGivenTo follows (Ok judgements.End) before after given = (after ≡ before) × NeedsNone given
IsGivenTo follows (Err fault) before after given = (after ≡ before) × NeedsNone given

-- or memory ran out before anything was done
abbrev pub IsGivenOr : {C : Type 0} → (C → Edit → Result CommandReply RepoFault → C → Type 0) → Result Judged CfgFault
    → C → C → Result Output SessionFault → Type 0
IsGivenOr follows judgement_of before after given = IsGivenTo follows judgement_of before after given
    ⊎ ((given ≡ Err (Repo Memory)) × (after ≡ before))

-- ---- faults

-- why a line failed: what had no reply lacked memory, or ended with a fault that the client may have
abbrev pub IsFault : (RepoFault → Type 0) → SessionFault → Type 0
IsFault fails (Line fault) = Unit {0}
IsFault fails (Refused reply) = is_refusal reply ≡ true
IsFault fails (Repo fault) = (fault ≡ Memory) ⊎ fails fault

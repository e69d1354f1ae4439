-- The effects of edits on a client, and of an edit on a repository over a journal.
use Rattle.std.specs.Prelude.{◌≡◌, ◌⊎◌, ◌++◌, List, [], ◌∷◌, Option, Some, Result, Ok, Err}
use Rattle.smf_model.specs.declared.command.Command.TheVariants as commands
use Rattle.smf_model.specs.declared.command.Edit.{Edit}
use Rattle.smf_model.specs.declared.command.CommandReply.{CommandReply}
use Rattle.smf_model.specs.declared.journal.RepoFault.{RepoFault}
use Rattle.smf_model.specs.Contents.{Holdings}
use Rattle.smf_model.specs.Journals.{IsRevised, LeavesOldOr, LeavesOnly}
use Rattle.smf_model.specs.Next.{next}
use Rattle.smf_model.specs.Whole.{Whole}

-- after an edit the held value stands in the journal.
-- A crash within the edit leaves what it could leave before, or what the edit makes.
-- If the journal is sound, a crash after the edit leaves the held value.
-- An edit that was accepted leaves a clean journal sound
pub record IsEdited {J : Type 0} (is_clean is_sound : J → Type 0) (stands : J → Holdings → Type 0)
    (could : J → Option Holdings → Type 0) (before : Whole J) (edit : Edit) (after : Whole J) : Type 0 where
  pub trusted : is_clean after.journal → is_clean before.journal
  pub sound : IsRevised before.held after.held → is_clean after.journal → is_sound after.journal
  pub kept : stands after.journal after.held
  pub crash : LeavesOldOr could before.journal after.journal (next before.held (commands.Edit edit)).0
  pub settled : is_sound after.journal → LeavesOnly could after.journal after.held

-- ---- edits in turn

-- an edit, and how it ended
pub record Given : Type 0 where
  pub edit : Edit
  pub end : Result CommandReply RepoFault

-- the value held after an edit that ended so
abbrev pub held_behind : Edit → Result CommandReply RepoFault → Holdings → Holdings
held_behind edit (Ok reply) h = (next h (commands.Edit edit)).0
held_behind edit (Err fault) h = h

-- a client to which an edit was given
pub record IsGiven {C : Type 0} (held : C → Holdings)
    (follows : C → Edit → Result CommandReply RepoFault → C → Type 0) (before : C) (g : Given)
    (after : C) : Type 0 where
  pub left : held after ≡ held_behind g.edit g.end (held before)
  pub behind : follows before g.edit g.end after

-- a client to which edits were given in turn
abbrev pub AreGiven : {C : Type 0} → (C → Holdings) → (C → Edit → Result CommandReply RepoFault → C → Type 0) → C
    → List Given → C → Type 0
AreGiven held follows before [] after = after ≡ before
AreGiven {C = C} held follows before (g ∷ gs) after = (then_on : C) × IsGiven held follows before g then_on
    × AreGiven held follows then_on gs after

-- only edits were given to a client
abbrev pub IsEditedAlone : {C : Type 0} → (C → Holdings) → (C → Edit → Result CommandReply RepoFault → C → Type 0) → C
    → C → Type 0
IsEditedAlone held follows before after = (all : List Given) × AreGiven held follows before all after

-- the value held after edits
abbrev pub held_behind_all : List Given → Holdings → Holdings
held_behind_all [] h = h
held_behind_all (g ∷ gs) h = held_behind_all gs (held_behind g.edit g.end h)

-- the value that the first of the edits make. The last of these is carried out even if it had no reply
pub record IsMadeByFirst (all : List Given) (h value : Holdings) : Type 0 where
  pub first : List Given
  pub last : Given
  pub behind : List Given
  pub whole : all ≡ first ++ last ∷ behind
  pub made : value ≡ (next (held_behind_all first h) (commands.Edit last.edit)).0

-- a crash leaves what it could leave before the edits, or what the first of them make
abbrev pub LeavesFirstOf : {J : Type 0} → (J → Option Holdings → Type 0) → Whole J → List Given → Whole J → Type 0
LeavesFirstOf could before all after = (found : Option Holdings) → could after.journal found
    → could before.journal found ⊎ ((value : Holdings) × (found ≡ Some value) × IsMadeByFirst all before.held value)

-- a crash leaves this value, or what the first of the edits after it make
abbrev pub LeavesThisOrLater : {J : Type 0} → (J → Option Holdings → Type 0) → Holdings → List Given → Whole J → Type 0
LeavesThisOrLater could h all after = (found : Option Holdings) → could after.journal found
    → (found ≡ Some h) ⊎ ((value : Holdings) × (found ≡ Some value) × IsMadeByFirst all h value)

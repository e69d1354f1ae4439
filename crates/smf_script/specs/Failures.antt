-- The node after a line that a fault of the node ended.
use Rattle.std.specs.Prelude.{◌≡◌, ◌⊎◌, ℕ, List, [], ◌++◌, Bool, true, false, Option, Some, None, Result, Ok}
use Rattle.std.specs.List.{list_any}
use Rattle.smf_admin.specs.Requests.{commands_of}
use Rattle.smf_admin.specs.declared.requests.Asked.{Asked}
use Rattle.smf_admin.specs.declared.requests.Asked.TheVariants as asks
use Rattle.smf_model.specs.declared.journal.RepoFault.{RepoFault}
use Rattle.smf_model.specs.declared.journal.RepoFault.TheVariants as journals
use Rattle.smf_node.specs.declared.fault.NodeFault.{NodeFault}
use Rattle.smf_node.specs.declared.fault.NodeFault.TheVariants.{Memory, Database, Limit, NoSuchMessage, NoSuchActor}
use Rattle.smf_node.specs.Marks.{last_delivered}
use Rattle.smf_node.specs.Runs.{RepeatsUntilFault}
use Rattle.smf_script.specs.Session.{Deed, Session, asked_all, success_deed, effect_of}
use Rattle.smf_svccfg.specs.Judged.{judgement_of}
use Rattle.smf_svccfg.specs.declared.fault.CfgFault.{CfgFault}
use Rattle.smf_svccfg.specs.declared.selection.Judged.{Judged}
use Rattle.smf_svccfg.specs.declared.selection.Judged.TheVariants as judgements
use Rattle.smf_script.specs.declared.request.NodeRequest.{NodeRequest}
use Rattle.smf_script.specs.declared.request.NodeRequest.TheVariants as requests
use Rattle.smf_world.specs.Schedule.{Progress}

-- ---- whether a line asks the repository to change

-- a line of svccfg is an edit
abbrev pub is_edit : Result Judged CfgFault → Bool
is_edit (Ok (judgements.Edit edit after)) = true
is_edit _ = false

-- svcadm is asked for an edit
abbrev pub gives_edit : Asked → Bool
gives_edit (asks.Edit edit) = true
gives_edit _ = false

-- it is asked for some edit
abbrev pub give_edits : Option (List Asked) → Bool
give_edits None = false
give_edits (Some all) = list_any gives_edit all

-- a line gives an edit, or delivers messages again
abbrev pub asks_repository : Session → NodeRequest → Bool
asks_repository s (requests.Svccfg line) = is_edit (judgement_of s.progress.world.now s.selection line)
asks_repository s (requests.Svcadm words) = give_edits (commands_of s.progress.world.now.names words)
asks_repository s (requests.Again count) = true
asks_repository s _ = false

-- ---- faults

-- The faults with which a line may end that asks something of the node alone. Memory ran out, or it asks the repository to
-- change and the journal could not be written. No such line needs a number that has no next one, delivers what was
-- never sent, or names an actor against its launch.
abbrev pub MayEnd : (RepoFault → Type 0) → Bool → NodeFault → Type 0
MayEnd stores asks Memory = Unit {0}
MayEnd stores asks Database = stores journals.Database × (asks ≡ true)
MayEnd stores asks Limit = ⊥
MayEnd stores asks NoSuchMessage = ⊥
MayEnd stores asks NoSuchActor = ⊥

-- something ended with a fault before anything was done, or after all of it
abbrev pub DeedFails : (RepoFault → Type 0) → Bool → Progress → Deed → Progress → NodeFault → Type 0
DeedFails stores asks before d after e = MayEnd stores asks e × ((after ≡ before) ⊎ (after ≡ d.progress))

-- some of what was asked was done
pub record AreDone (before : Progress) (all : List Asked) (after : Progress) : Type 0 where
  pub first : List Asked
  pub rest : List Asked
  pub whole : all ≡ first ++ rest
  pub left : after ≡ (asked_all (success_deed before []) first).progress

pub record SvcadmLeaves (before : Progress) (words : List (List ℕ)) (after : Progress) : Type 0 where
  pub all : List Asked
  pub asks : commands_of before.world.now.names words ≡ Some all
  pub some : AreDone before all after

-- the node that a fault leaves if it ends a line in mid-course
abbrev pub Leaves : (RepoFault → Type 0) → Session → NodeRequest → Progress → NodeFault → Type 0
Leaves stores s (requests.Svcadm words) after e = SvcadmLeaves s.progress words after
Leaves stores s (requests.Again count) after e =
    RepeatsUntilFault stores s.progress (last_delivered count s.progress) after e
Leaves stores s _ after e = ⊥

-- nothing was done, all was done and its text was not put, or it ended in mid-course
pub record RequestFails (stores : RepoFault → Type 0) (s : Session) (request : NodeRequest) (after : Progress)
    (e : NodeFault) : Type 0 where
  pub may : MayEnd stores (asks_repository s request) e
  pub left : (after ≡ s.progress) ⊎ (after ≡ (effect_of s request).session.progress) ⊎ Leaves stores s request after e

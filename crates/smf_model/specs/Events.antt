-- The events of instances, by the commands and the values that these led to.
use Rattle.std.specs.Prelude.{◌≡◌, ◌⊎◌, ℕ, ◌+◌, ◌≤◌, ◌<◌, List, [], ◌∷◌, Bool, true, false, Some}
use Rattle.smf_state.specs.declared.state.Cause.{Cause}
use Rattle.smf_state.specs.declared.state.Cause.TheVariants as causes
use Rattle.smf_state.specs.declared.state.State.{State}
use Rattle.smf_state.specs.declared.state.State.TheVariants.{Offline, Online}
use Rattle.smf_state.specs.declared.step.Proposal.{Proposal}
use Rattle.smf_state.specs.declared.step.Step.TheVariants.{End}
use Rattle.smf_state.specs.States.{runs}
use Rattle.smf_model.specs.declared.command.Command.{Command}
use Rattle.smf_model.specs.declared.command.Command.TheVariants as commands
use Rattle.smf_model.specs.declared.command.Edit.TheVariants as asked_for
use Rattle.smf_model.specs.declared.command.CommandReply.{CommandReply}
use Rattle.smf_model.specs.declared.command.CommandReply.TheVariants.{Granted, Done}
use Rattle.smf_model.specs.declared.held.Instance.{Instance}
use Rattle.smf_model.specs.Dates.{EventKind, ErrorStop, OtherStop, Refreshed, Started, revision_of}
use Rattle.smf_model.specs.Contents.{Holdings}
use Rattle.smf_model.specs.Look.{instance}
use Rattle.smf_model.specs.Next.{next}
use Rattle.smf_model.specs.History.{holdings_after_commands}
use Rattle.smf_model.specs.Laws.{IsNumbered}

-- ---- what an event is: a value h, a command c, the value k that it led to, and its reply r

-- a proposal that ends what is under way at the instance n is granted, for the first time, since it makes a revision
pub record Ends (n : ℕ) (h : Holdings) (c : Command) (k : Holdings) (r : CommandReply) : Type 0 where
  pub proposal : Proposal
  pub to : State
  pub keep : Bool
  pub failed : ℕ
  pub cause : Cause
  pub before : Instance
  pub after : Instance
  pub proposed : c ≡ commands.Propose proposal
  pub of_instance : proposal.instance ≡ n
  pub step : proposal.step ≡ End to keep failed cause
  pub was : instance h n ≡ Some before
  pub became : instance k n ≡ Some after
  pub granted : r ≡ Granted after.row
  pub revised : k.revision ≡ h.revision + 1

-- an instance that ran does not run any more, by an error
pub record IsErrorStop (n : ℕ) (h : Holdings) (c : Command) (k : Holdings) (r : CommandReply) : Type 0 where
  pub end : Ends n h c k r
  pub ran : runs end.before.row.state ≡ true
  pub stopped : runs end.after.row.state ≡ false
  pub by_error : end.cause ≡ causes.Error

-- or by another cause
pub record IsOtherStop (n : ℕ) (h : Holdings) (c : Command) (k : Holdings) (r : CommandReply) : Type 0 where
  pub end : Ends n h c k r
  pub ran : runs end.before.row.state ≡ true
  pub stopped : runs end.after.row.state ≡ false
  pub by_other : end.cause ≡ causes.Error → ⊥

-- a refresh of an instance that runs is accepted
pub record IsRefresh (n : ℕ) (h : Holdings) (c : Command) (k : Holdings) (r : CommandReply) : Type 0 where
  pub asked : c ≡ commands.Edit (asked_for.Refresh n)
  pub done : r ≡ Done
  pub before : Instance
  pub was : instance h n ≡ Some before
  pub ran : runs before.row.state ≡ true

-- an instance that was offline is online
pub record IsStart (n : ℕ) (h : Holdings) (c : Command) (k : Holdings) (r : CommandReply) : Type 0 where
  pub end : Ends n h c k r
  pub from : end.before.row.state ≡ Offline
  pub online : end.after.row.state ≡ Online

abbrev pub IsEventTo : EventKind → ℕ → Holdings → Command → Holdings → CommandReply → Type 0
IsEventTo ErrorStop n h c k r = IsErrorStop n h c k r
IsEventTo OtherStop n h c k r = IsOtherStop n h c k r
IsEventTo Refreshed n h c k r = IsRefresh n h c k r
IsEventTo Started n h c k r = IsStart n h c k r

-- the command c on h is an event of this kind for the instance n
abbrev pub IsEvent : EventKind → ℕ → Holdings → Command → Type 0
IsEvent kind n h c = IsEventTo kind n h c (next h c).0 (next h c).1

-- ---- in a history

-- these commands, the newest first, have an event of this kind for the instance n. The revision that it made is above
-- the base
abbrev pub Happened : EventKind → ℕ → ℕ → Holdings → List Command → Type 0
Happened kind n base h [] = ⊥
Happened kind n base h (c ∷ cs) =
    (IsEvent kind n (holdings_after_commands h cs) c × (base < (holdings_after_commands h (c ∷ cs)).revision))
    ⊎ Happened kind n base h cs

-- if a row keeps a revision above the base, such an event happened after the base
abbrev pub IsTold : Holdings → List Command → EventKind → ℕ → ℕ → Instance → Type 0
IsTold h cs kind n base i =
    IsNumbered h
    → h.revision ≤ base
    → instance (holdings_after_commands h cs) n ≡ Some i
    → base < revision_of kind i.row
    → Happened kind n base h cs

-- and if one happened, the row keeps such a revision
abbrev pub IsKept : Holdings → List Command → EventKind → ℕ → ℕ → Instance → Type 0
IsKept h cs kind n base i =
    IsNumbered h
    → h.revision ≤ base
    → instance (holdings_after_commands h cs) n ≡ Some i
    → Happened kind n base h cs
    → base < revision_of kind i.row

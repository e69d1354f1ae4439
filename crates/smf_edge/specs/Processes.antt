-- Which processes run for which contracts, and what was found of them or done to them.
use Rattle.std.specs.Prelude.{◌≡◌, ℕ, List, [], ◌∷◌, ◌++◌, Bool, true, ◌⊎◌, ◌==◌, not, Option, Some, None, filter, map, position, slice_get}
use Rattle.std.specs.declared.alloc.Global.{Global}
use Rattle.std.specs.declared.process.Command.{Command}
use Rattle.std.specs.declared.process.ExitStatus.{ExitStatus}
use Rattle.smf_contract.specs.declared.event.Exit.{Exit}
use Rattle.smf_contract.specs.declared.event.ContractEvent.{ContractEvent}
use Rattle.smf_contract.specs.declared.call.ContractCall.TheVariants as calls
use Rattle.smf_contract.specs.Called.{table_after_contract_call}
use Rattle.smf_contract.specs.Entries.{Contracts, home}
use Rattle.smf_state.specs.declared.state.Duration.{Duration}
use Rattle.smf_edge.specs.declared.child.Kid.{Kid}
use Rattle.smf_edge.specs.declared.child.Sight.{Sight}
use Rattle.smf_edge.specs.declared.child.Sight.TheVariants.{Running, Ended, Failed}
use Rattle.smf_edge.specs.declared.deed.Happening.{Happening}
use Rattle.smf_edge.specs.declared.deed.Happening.TheVariants as happenings
use Rattle.smf_edge.specs.declared.start.Start.{Start}
use Rattle.smf_edge.specs.Books.{IsTold}
use Rattle.smf_edge.specs.Ledgers.{Ledger}
use Rattle.smf_edge.specs.Steps.{IsGiven, ledger_with_member_event}
use Rattle.smf_edge.specs.Facts.{Facts, HasNotRun, HasRun}
use Rattle.smf_edge.specs.Ends.{IsGroupKill, exit_by}
use Rattle.smf_edge.specs.Shell.{IsRun, is_child}
use Rattle.smf_edge.specs.Starts.{StartedProgram, log_with_start}

-- the data of a process that stay as long as it is kept: its contract, how long its service lasts, and its process
-- group
pub record Role : Type 0 where
  pub contract : ℕ
  pub style : Duration
  pub group : ℕ

-- real children: their ledger, how often their device failed, their processes, and the log of what was started, if it is
-- known
pub record OsChildren (C : Type 0) : Type 0 where
  pub ledger : Ledger
  pub failures : ℕ
  pub kids : List (Kid C)
  pub started : Option (List StartedProgram)

abbrev pub role_of : {C : Type 0} → Kid C → Role
role_of kid = record { contract = kid.contract; style = kid.style; group = kid.group }

abbrev pub roles : {C : Type 0} → List (Kid C) → List Role
roles kids = map role_of kids

-- the contracts of processes, in their order
abbrev pub contracts : {C : Type 0} → List (Kid C) → List ℕ
contracts kids = map (λ r. r.contract) (roles kids)

abbrev pub is_kid_of : {C : Type 0} → ℕ → Kid C → Bool
is_kid_of id kid = kid.contract == id

abbrev pub is_other_kid : {C : Type 0} → ℕ → Kid C → Bool
is_other_kid id kid = not (kid.contract == id)

abbrev pub is_other_role : ℕ → Role → Bool
is_other_role id role = not (role.contract == id)

abbrev pub is_other : ℕ → ℕ → Bool
is_other id n = not (n == id)

-- a process of a contract of which this holds
abbrev pub SomeKid : {C : Type 0} → ℕ → List (Kid C) → (Kid C → Type 0) → Type 0
SomeKid {C} id kids P = (k : ℕ) × (kid : Kid C) × (slice_get kids k ≡ Some kid) × (kid.contract ≡ id) × P kid

-- the killer of a group ran to its end
abbrev pub IsCleared : {C : Type 0} → Facts C → ℕ → Type 0
IsCleared facts group = (killer : Command Global) × (IsGroupKill group killer) × HasRun facts killer

-- the killer of a group was not started, or the system did not say how it ended
abbrev pub IsNotCleared : {C : Type 0} → Facts C → ℕ → Type 0
IsNotCleared facts group = (killer : Command Global) × (IsGroupKill group killer) × HasNotRun facts killer

-- the process ended with this exit, and what a child service left in its group was ended
pub record HasExit {C : Type 0} (facts : Facts C) (exit : Exit) (kid : Kid C) : Type 0 where
  pub status : ExitStatus
  pub ended : facts.has_ended kid.child status
  pub is : exit ≡ exit_by status
  pub cleared : is_child kid.style ≡ true → IsCleared facts kid.group

-- the system did not say how the process ended, or its group was not ended
abbrev pub HasNoExit : {C : Type 0} → Facts C → Kid C → Type 0
HasNoExit facts kid = facts.is_lost kid.child ⊎ IsNotCleared facts kid.group

-- the system took a kill of the process, the killer of its group ran to its end, and the process ended
pub record IsEnded {C : Type 0} (facts : Facts C) (kid : Kid C) : Type 0 where
  pub killed : facts.is_killed kid.child
  pub cleared : IsCleared facts kid.group
  pub status : ExitStatus
  pub ended : facts.has_ended kid.child status

-- one of these three failed
abbrev pub IsNotEnded : {C : Type 0} → Facts C → Kid C → Type 0
IsNotEnded facts kid = facts.kill_fails kid.child ⊎ (IsNotCleared facts kid.group ⊎ facts.is_lost kid.child)

abbrev pub IsSeen : {C : Type 0} → Facts C → Sight → Kid C → Type 0
IsSeen facts Running kid = facts.is_running kid.child
IsSeen facts (Ended contract exit) kid = (contract ≡ kid.contract) × HasExit facts exit kid
IsSeen facts Failed kid = HasNoExit facts kid

abbrev pub AllRun : {C : Type 0} → Facts C → List (Kid C) → Type 0
AllRun {C} facts kids = (k : ℕ) (kid : Kid C) → slice_get kids k ≡ Some kid → facts.is_running kid.child

abbrev pub OneFails : {C : Type 0} → Facts C → List (Kid C) → Type 0
OneFails {C} facts kids = (k : ℕ) × (kid : Kid C) × (slice_get kids k ≡ Some kid) × HasNoExit facts kid

-- the process ended, and is a child service's: what it left in this group is to be ended
pub record HasLeft {C : Type 0} (facts : Facts C) (group : ℕ) (kid : Kid C) : Type 0 where
  pub status : ExitStatus
  pub ended : facts.has_ended kid.child status
  pub child : is_child kid.style ≡ true
  pub is : kid.group ≡ group

-- the system took a kill of the process, and this is its group
abbrev pub IsToEnd : {C : Type 0} → Facts C → ℕ → Kid C → Type 0
IsToEnd facts group kid = facts.is_killed kid.child × (kid.group ≡ group)

-- one of them left a group
abbrev pub OneHasLeft : {C : Type 0} → Facts C → List (Kid C) → ℕ → Type 0
OneHasLeft {C} facts kids group = (k : ℕ) × (kid : Kid C) × (slice_get kids k ≡ Some kid) × HasLeft facts group kid

-- the process of a contract left a group
abbrev pub KidHasLeft : {C : Type 0} → Facts C → ℕ → List (Kid C) → ℕ → Type 0
KidHasLeft facts id kids group = SomeKid id kids (HasLeft facts group)

-- the process of a contract is to be ended with its group
abbrev pub KidIsToEnd : {C : Type 0} → Facts C → ℕ → List (Kid C) → ℕ → Type 0
KidIsToEnd facts id kids group = SomeKid id kids (IsToEnd facts group)

-- the sight of all of them
abbrev pub AreSeen : {C : Type 0} → Facts C → Sight → List (Kid C) → Type 0
AreSeen facts Running kids = AllRun facts kids
AreSeen facts (Ended contract exit) kids = SomeKid contract kids (HasExit facts exit)
AreSeen facts Failed kids = OneFails facts kids

-- a contract has no process, or this holds of one
abbrev pub NoneOrSome : {C : Type 0} → ℕ → List (Kid C) → (Kid C → Type 0) → Type 0
NoneOrSome id kids P = (position (is_kid_of id) kids ≡ None) ⊎ SomeKid id kids P

-- one program was started, once: the last process is of it, and its group has its number
pub record IsStarted {C : Type 0} (facts : Facts C) (start : Start) (old new : OsChildren C) : Type 0 where
  pub program : Command Global
  pub run : IsRun start program
  pub once : new.started ≡ log_with_start program true old.started
  pub child : C
  pub of : facts.is_of program child
  pub group : ℕ
  pub number : facts.is_number child group
  pub is : new.kids
      ≡ old.kids ++ record { contract = start.contract; style = start.style; group = group; child = child } ∷ []

-- a process of the contract ended, and that is what its table is told
pub record IsFoundEnd {C : Type 0} (facts : Facts C) (id : ℕ) (kids : List (Kid C)) (old new : Contracts) : Type 0 where
  pub exit : Exit
  pub process : ℕ
  pub kid : SomeKid id kids (HasExit facts exit)
  pub table : new ≡ table_after_contract_call old (calls.Exit process exit)

-- the process of the contract ended, and that is found later
abbrev pub IsJoinedEnd : {C : Type 0} → Facts C → ℕ → List (Kid C) → Ledger → Ledger → Type 0
IsJoinedEnd facts id kids old new =
    (exit : Exit) × (SomeKid id kids (HasExit facts exit))
    × (new ≡ ledger_with_member_event old id (happenings.Exit exit))

-- it is told that this happened to a member of a contract
abbrev pub HasTold : ℕ → Happening → Ledger → Ledger → ContractEvent → Type 0
HasTold id happening old new e =
    (process : ℕ) × (home old.table.members process ≡ Some id) × IsTold id process happening e old new

-- an event that was due changes no process; any other is the last of its process, which ended now or is pending
abbrev pub PollsEvent : {C : Type 0} → Facts C → ContractEvent → Ledger → Ledger → List (Kid C) → List (Kid C) → Type 0
PollsEvent facts e l m old new =
    (IsGiven e l m × (new ≡ old))
    ⊎ ((l.due ≡ [])
    × (roles new ≡ filter (is_other_role e.contract) (roles old))
    × (l.pending ≡ [] → IsFoundEnd facts e.contract old l.table m.table))

-- no event is given only if all processes run
abbrev pub PollsKids : {C : Type 0} → Facts C → Option ContractEvent → Ledger → Ledger → List (Kid C) → List (Kid C)
    → Type 0
PollsKids facts None l m old new = (roles new ≡ roles old) × AllRun facts old
PollsKids facts (Some e) l m old new = PollsEvent facts e l m old new

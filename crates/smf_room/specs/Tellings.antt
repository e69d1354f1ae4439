-- What the system is asked for a room, and what it answers; and the log of what was asked to change something.
use Rattle.std.specs.Prelude.{◌≡◌, ◌⊎◌, ℕ, List, [], ◌∷◌, ◌++◌, Bool, true, false, Option, option_map}
use Rattle.smf_room.specs.declared.note.Note.{Note}
use Rattle.smf_room.specs.declared.process.Process.{Process}
use Rattle.smf_room.specs.declared.token.Token.{Token}

-- a call that changes something
pub data Act : Type 0 where
  -- the numbers from the first to below the second were taken, on the disk
  Reserved : ℕ → ℕ → Act
  -- a folder, with note and lock, and last the token `go`
  Made : ℕ → Note → Act
  -- the token was renamed from the one to the other
  Renamed : ℕ → Token → Token → Act
  -- the holder was asked to start
  Asked : ℕ → Act
  -- the keeper was asked to send this signal to all, and to kill them after so many seconds
  AskedEnd : ℕ → List ℕ → ℕ → Act
  -- these processes were killed, which had the contract's mark
  Killed : ℕ → List ℕ → Act
  -- all processes of the contract's control group were killed
  KilledGroup : ℕ → Act
  -- the token was removed
  Unlinked : ℕ → Token → Act
  -- the contract's control group was removed, if there was one
  Ungrouped : ℕ → Act
  -- the folder was removed
  Forgot : ℕ → Act

pub data Outcome : Type 0 where
  Done : Outcome
  -- nothing was changed: there was no such token, nobody reads the pipe, or somebody else has the lock
  NotDone : Outcome
  -- the call failed, and may have been done
  Unsure : Outcome

-- what a call came to that says whether it did something
abbrev pub outcome_of : Bool → Outcome
outcome_of true = Done
outcome_of false = NotDone

pub record Deed : Type 0 where
  pub act : Act
  pub outcome : Outcome

abbrev pub deed : Act → Outcome → Deed
deed act outcome = record { act = act; outcome = outcome }

-- one question, and what was told
pub data Telling : Type 0 where
  -- the next number that is free stands on the disk
  NextIs : ℕ → Telling
  -- these contracts have a folder
  Listed : List ℕ → Telling
  -- the contract has this token, or none
  TokenIs : ℕ → Option Token → Telling
  -- nobody has the lock, or somebody has
  Free : ℕ → Bool → Telling
  -- the note, if it is whole
  NoteIs : ℕ → Option Note → Telling
  -- whether the control group has a process; none if there is no group
  Populated : ℕ → Option Bool → Telling
  -- a look at all processes: whether it found the server's own, and which it found with the contract's mark
  Marked : ℕ → Bool → List Process → Telling
  -- the server let go any lock that it had, and took this one alone, or could not
  Locked : ℕ → Bool → Telling
  -- it let go any lock that it had
  Unlocked : Telling
  -- whether a holder was there; if not, one was begun
  HolderIs : Bool → Telling
  Did : Deed → Telling
  -- the system did not answer
  NoAnswer : Telling

abbrev pub Tells : Type 0 → Type 1
Tells S = S → Telling → S → Type 0

-- the log of the calls that were to change something; none if it is not known
abbrev pub Log : Type 0 → Type 0
Log S = S → Option (List Deed)

abbrev pub deeds_in : Telling → List Deed
deeds_in (Did d) = d ∷ []
deeds_in _ = []

abbrev pub all_deeds : List Telling → List Deed
all_deeds [] = []
all_deeds (t ∷ ts) = deeds_in t ++ all_deeds ts

-- the log with these more, if it is known
abbrev pub log_with : List Deed → Option (List Deed) → Option (List Deed)
log_with more old = option_map (λ first. first ++ more) old

-- one call: what was told leads from moment to moment, and the log has the call if it was to change something
pub record Call {S : Type 0} (tells : Tells S) (did : Log S) (t : Telling) (p q : S) : Type 0 where
  pub told : tells p t q
  pub logged : did q ≡ log_with (deeds_in t) (did p)

-- these calls, one after the other, and no other
abbrev pub Calls : {S : Type 0} → Tells S → Log S → List Telling → S → S → Type 0
Calls tells did [] p q = p ≡ q
Calls {S} tells did (t ∷ ts) p q = (r : S) × Call tells did t p r × Calls tells did ts r q

-- this one call
abbrev pub Only : Telling → List Telling → Type 0
Only t ts = ts ≡ t ∷ []

-- calls of which the first holds, and then such of which the second holds
abbrev pub Then : (List Telling → Type 0) → (List Telling → Type 0) → List Telling → Type 0
Then P Q ts = (us : List Telling) × (vs : List Telling) × (P us) × (Q vs) × (ts ≡ us ++ vs)

-- calls of which this holds, and no other; so the log has exactly their deeds
pub record Heard {S : Type 0} (tells : Tells S) (did : Log S) (P : List Telling → Type 0) (p q : S) : Type 0 where
  pub calls : List Telling
  pub holds : P calls
  pub told : Calls tells did calls p q
  pub logged : did q ≡ log_with (all_deeds calls) (did p)

-- a call that failed: a question was not answered, or nobody knows whether a deed was done
abbrev pub failed : Telling → Telling
failed (Did d) = Did (deed d.act Unsure)
failed t = NoAnswer

-- the next call failed
abbrev pub FailsNext : List Telling → List Telling → List Telling → Type 0
FailsNext before [] ts = ⊥
FailsNext before (t ∷ rest) ts = ts ≡ before ++ failed t ∷ []

-- the calls are a beginning of such of which this holds; the last may have failed
pub record EndsEarly (P : List Telling → Type 0) (ts : List Telling) : Type 0 where
  pub before : List Telling
  pub rest : List Telling
  pub whole : P (before ++ rest)
  pub ends : (ts ≡ before) ⊎ FailsNext before rest ts

-- The calls are a beginning of such of which this holds, and not all of them: one was not made, or failed.
pub record Fails (P : List Telling → Type 0) (ts : List Telling) : Type 0 where
  pub before : List Telling
  pub next : Telling
  pub rest : List Telling
  pub whole : P (before ++ next ∷ rest)
  pub ends : (ts ≡ before) ⊎ (ts ≡ before ++ failed next ∷ [])

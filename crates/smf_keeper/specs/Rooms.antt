-- Facts of a contract of a room.
use Rattle.std.specs.Prelude.{◌≡◌, ◌⊎◌, ℕ, ◌+◌, List, [], ◌∷◌, Bool, true, false, Option, Some, None, option_map}
use Rattle.std.specs.IoError.{error_kind}
use Rattle.std_io.specs.declared.io.error.Error.{Error}
use Rattle.std_io.specs.declared.io.kind.ErrorKind.TheVariants.{OutOfMemory}
use Rattle.smf_edge.specs.declared.start.Start.{Start}
use Rattle.smf_edge.specs.declared.stand.FirstEnd.{FirstEnd}
use Rattle.smf_edge.specs.declared.stand.Stand.{Stand}
use Rattle.smf_edge.specs.declared.stand.Stand.TheVariants.{Gone}
use Rattle.smf_room.specs.declared.live_room.LiveRoom.{LiveRoom}
use Rattle.smf_room.specs.declared.note.Note.{Note}
use Rattle.smf_room.specs.LiveRooms.{IsBegun, IsRefused, IsStartLost}
use Rattle.smf_room.specs.Looks.{IsCancel}
use Rattle.smf_room.specs.Starts.{IsEndAsk}
use Rattle.smf_room.specs.Tellings.{Act, Deed, Did, Done, Fails, Heard, Log, Made, Outcome, Telling, Tells, deed}
use Rattle.smf_keeper.specs.Notes.{IsNoteOf}
use Rattle.smf_keeper.specs.Stands.{IsLost, IsStanding}

-- the contract of this number was made with a note of this start
pub record IsMadeFor {S : Type 0} (tells : Tells S) (start : Start) (id : ℕ) : Type 0 where
  pub note : Note
  pub of : IsNoteOf start note
  pub before : S
  pub after : S
  pub made : tells before (Did (deed (Made id note) Done)) after

-- this start was asked for, and the contract of this number was made
abbrev pub IsStartFor : {S : Type 0} → Tells S → Log S → LiveRoom S → LiveRoom S → Start → ℕ → Type 0
IsStartFor tells did a b start id = (note : Note) × IsNoteOf start note × IsBegun tells did a b note id

-- a contract of the same key may run, or a call failed
abbrev pub IsNotStarted : {S : Type 0} → Tells S → Log S → LiveRoom S → LiveRoom S → Start → Type 0
IsNotStarted tells did a b start =
    (note : Note) × IsNoteOf start note × (IsRefused tells did a b note ⊎ IsStartLost tells did a b note)

-- memory was short, a call failed, or a contract of the same key may run
abbrev pub StartFails : {S : Type 0} → Tells S → Log S → Error → Type 0
StartFails {S} tells did e =
    (error_kind e ≡ OutOfMemory)
    ⊎ ((a : LiveRoom S) × (b : LiveRoom S) × (note : Note)
    × (IsRefused tells did a b note ⊎ IsStartLost tells did a b note))

-- these calls were made at some time
abbrev pub WasHeard : {S : Type 0} → Tells S → Log S → (List Telling → Type 0) → Type 0
WasHeard {S} tells did P = (p : S) × (q : S) × Heard tells did P p q

-- it was looked at, and stood so
abbrev pub StoodSo : {S : Type 0} → Tells S → Log S → ℕ → Stand → Type 0
StoodSo tells did id stand = ∥ WasHeard tells did (IsStanding id stand) ∥₁

-- nothing was left of it
abbrev pub HasGone : {S : Type 0} → Tells S → Log S → ℕ → Type 0
HasGone tells did id = (end : FirstEnd) × StoodSo tells did id (Gone end)

-- the end that is kept was seen
abbrev pub IsNoted : {S : Type 0} → Tells S → Log S → ℕ → Option FirstEnd → Type 0
IsNoted tells did id None = Unit {0}
IsNoted tells did id (Some end) = WasHeard tells did (IsStanding id (Gone end))

-- the stand that is kept was seen
abbrev pub IsKept : {S : Type 0} → Tells S → Log S → ℕ → Option Stand → Type 0
IsKept tells did id None = Unit {0}
IsKept tells did id (Some stand) = WasHeard tells did (IsStanding id stand)

-- its end was asked for, and whoever keeps it was reached or was not
abbrev pub WasAsked : {S : Type 0} → Tells S → Log S → ℕ → Bool → Type 0
WasAsked tells did id done =
    (signal : List ℕ) × (seconds : ℕ) × WasHeard tells did (IsEndAsk id signal seconds done)

-- the flag that is kept says so, if it is set
abbrev pub IsAskedIf : {S : Type 0} → Tells S → Log S → ℕ → Bool → Type 0
IsAskedIf tells did id false = Unit {0}
IsAskedIf tells did id true = WasAsked tells did id true

-- its end could not be asked for: a start could not be taken back, it is not known how it stands, or the call failed
abbrev pub IsUnasked : {S : Type 0} → Tells S → Log S → ℕ → Type 0
IsUnasked tells did id =
    WasHeard tells did (Fails (IsCancel id true))
    ⊎ (WasHeard tells did (IsLost id)
    ⊎ ((signal : List ℕ) × (seconds : ℕ) × WasHeard tells did (Fails (IsEndAsk id signal seconds true))))

abbrev pub MayLive : {S : Type 0} → Tells S → Log S → ℕ → Type 0
MayLive tells did id = ((done : Bool) × ∥ WasAsked tells did id done ∥₁) ⊎ IsUnasked tells did id

-- ---- how many contracts were made

abbrev pub made_by : Act → Outcome → ℕ
made_by (Made id note) Done = 1
made_by _ _ = 0

abbrev pub made_in : List Deed → ℕ
made_in [] = 0
made_in (d ∷ ds) = made_by d.act d.outcome + made_in ds

-- no contract was made between these moments, by the log
abbrev pub SameMade : {S : Type 0} → Log S → S → S → Type 0
SameMade did p q = option_map made_in (did q) ≡ option_map made_in (did p)

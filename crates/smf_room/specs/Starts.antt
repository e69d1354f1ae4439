-- What a server asks to make and start a contract, and to end one.
use Rattle.std.specs.Prelude.{◌≡◌, ◌⊎◌, ◌<◌, ◌≤◌, ◌+◌, ℕ, List, [], ◌∷◌, ◌++◌, Bool, true, false, Some, string_bytes}
use Rattle.smf_room.specs.declared.note.Note.{Note}
use Rattle.smf_room.specs.declared.start.Given.{Given}
use Rattle.smf_room.specs.declared.start.Numbers.{Numbers}
use Rattle.smf_room.specs.declared.start.TheConstants.{BLOCK}
use Rattle.smf_room.specs.Helds.{Held}
use Rattle.smf_room.specs.Tellings.{Asked, AskedEnd, Did, Done, EndsEarly, HolderIs, Made, NextIs, NoAnswer, NotDone, Only, Outcome, Reserved, Telling, Then, Unsure, deed, outcome_of}

-- a number is left
pub record HasNumber (before : Numbers) (given : Given) (ts : List Telling) : Type 0 where
  pub left : before.low < before.high
  pub id : given.id ≡ before.low
  pub low : given.left.low ≡ before.low + 1
  pub high : given.left.high ≡ before.high
  pub asked : ts ≡ []

-- none is left, and a block was taken, which begins with the next number of the disk
pub record TakesBlock (before : Numbers) (given : Given) (ts : List Telling) : Type 0 where
  pub none : before.high ≤ before.low
  pub low : given.left.low ≡ given.id + 1
  pub high : given.left.high ≡ given.id + BLOCK
  pub asked : ts ≡ NextIs given.id ∷ Did (deed (Reserved given.id (given.id + BLOCK)) Done) ∷ []

abbrev pub IsGiven : Numbers → Given → List Telling → Type 0
IsGiven before given ts = HasNumber before given ts ⊎ TakesBlock before given ts

abbrev pub IsAnyGiven : Numbers → List Telling → Type 0
IsAnyGiven before ts = (given : Given) × IsGiven before given ts

-- ---- a contract is made

abbrev pub made : ℕ → Note → Outcome → Telling
made id note outcome = Did (deed (Made id note) outcome)

-- a contract of this number and of a note's instance, whose making failed or not
abbrev pub held_as : ℕ → Note → Bool → Held
held_as id note failed =
    record { known = record { id = id; instance = Some (string_bytes note.instance) }; failed = failed }

-- one contract was made, under a number that was not given before, and it may run from now on
pub record IsMade (before after : Numbers) (hs ks : List Held) (note : Note) (id : ℕ) (ts : List Telling) : Type 0 where
  pub given : Given
  pub is : given.id ≡ id
  pub left : after ≡ given.left
  pub noted : ks ≡ hs ++ held_as id note false ∷ []
  pub calls : Then (IsGiven before given) (Only (made given.id note Done)) ts

-- there was no memory or no number, and no contract was made
pub record HasNoNumber (before after : Numbers) (hs ks : List Held) (ts : List Telling) : Type 0 where
  pub left : after ≡ before
  pub noted : ks ≡ hs
  pub calls : EndsEarly (IsAnyGiven before) ts

-- a contract may have been made, which nobody was asked to start; its number is not given again
pub record IsPartlyMade (before after : Numbers) (hs ks : List Held) (note : Note) (ts : List Telling) : Type 0 where
  pub given : Given
  pub left : after ≡ given.left
  pub noted : ks ≡ hs ++ held_as given.id note true ∷ []
  pub calls : Then (IsGiven before given) (Only (made given.id note Unsure)) ts

abbrev pub IsUnmade : Numbers → Numbers → List Held → List Held → Note → List Telling → Type 0
IsUnmade before after hs ks note ts =
    HasNoNumber before after hs ks ts ⊎ IsPartlyMade before after hs ks note ts

-- ---- a start is asked for

abbrev pub asked_start : ℕ → Outcome → Telling
asked_start id outcome = Did (deed (Asked id) outcome)

-- somebody read; or a holder was asked for, and the start once more if there was one
abbrev pub IsAsking : ℕ → Bool → List Telling → Type 0
IsAsking id done ts =
    ((done ≡ true) × Only (asked_start id Done) ts)
    ⊎ (((done ≡ false) × (ts ≡ asked_start id NotDone ∷ HolderIs false ∷ []))
    ⊎ (ts ≡ asked_start id NotDone ∷ HolderIs true ∷ asked_start id (outcome_of done) ∷ []))

-- one of these calls failed
abbrev pub IsAskLost : ℕ → List Telling → Type 0
IsAskLost id ts =
    Only (asked_start id Unsure) ts
    ⊎ ((ts ≡ asked_start id NotDone ∷ NoAnswer ∷ [])
    ⊎ (ts ≡ asked_start id NotDone ∷ HolderIs true ∷ asked_start id Unsure ∷ []))

abbrev pub IsTried : ℕ → List Telling → Type 0
IsTried id ts = ((done : Bool) × IsAsking id done ts) ⊎ IsAskLost id ts

abbrev pub IsEndAsk : ℕ → List ℕ → ℕ → Bool → List Telling → Type 0
IsEndAsk id signal seconds done ts = Only (Did (deed (AskedEnd id signal seconds) (outcome_of done))) ts

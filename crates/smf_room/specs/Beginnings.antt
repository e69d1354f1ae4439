-- What a server asks when it begins: each contract of an older life is cancelled, looked at, and then forgotten, adopted
-- or ended.
use Rattle.std.specs.Prelude.{◌≡◌, ◌⊎◌, ℕ, List, [], ◌∷◌, Bool, true, false, Option, Some, None}
use Rattle.smf_room.specs.declared.life.Found.{Found}
use Rattle.smf_room.specs.declared.life.Stand.{Stand}
use Rattle.smf_room.specs.declared.life.Stand.TheVariants.{Gone, TakenUp, Left}
use Rattle.smf_room.specs.declared.life.Stand.TheVariants as stands
use Rattle.smf_room.specs.declared.look.Look.{Look}
use Rattle.smf_room.specs.declared.look.Look.TheVariants.{Waits, Lives, Never, Over, Unclean}
use Rattle.smf_room.specs.declared.note.Note.{Note}
use Rattle.smf_room.specs.declared.sweep.Swept.{Swept}
use Rattle.smf_room.specs.declared.sweep.Swept.TheVariants.{Clean}
use Rattle.smf_room.specs.Looks.{IsAnyCancel, IsLook}
use Rattle.smf_room.specs.Sweeps.{IsForget, IsSweep}
use Rattle.smf_room.specs.Tellings.{Asked, Did, Listed, NoteIs, Only, Populated, Telling, Then, deed, outcome_of}

abbrev pub is_clean : Swept → Bool
is_clean Clean = true
is_clean _ = false

abbrev pub is_full : Option Bool → Bool
is_full (Some true) = true
is_full _ = false

abbrev pub is_gone : Stand → Bool
is_gone Gone = true
is_gone _ = false

abbrev pub stand_of : Bool → Stand
stand_of true = Gone
stand_of false = Left

pub record IsForgetting (id : ℕ) (stand : Stand) (ts : List Telling) : Type 0 where
  pub gone : Bool
  pub is : stand ≡ stand_of gone
  pub asked : IsForget id gone ts

abbrev pub IsAnyForgetting : ℕ → List Telling → Type 0
IsAnyForgetting id ts = (stand : Stand) × IsForgetting id stand ts

-- its group has a process, and the holder was asked to take it up
pub record IsTakenUp (id : ℕ) (stand : Stand) (ts : List Telling) : Type 0 where
  pub some : Option Bool
  pub full : is_full some ≡ true
  pub asked : Bool
  pub is : stand ≡ TakenUp
  pub calls : Then (Only (Populated id some)) (Only (Did (deed (Asked id) (outcome_of asked)))) ts

-- it was swept, and something is left
pub record IsLeftOver (id : ℕ) (stand : Stand) (ts : List Telling) : Type 0 where
  pub some : Option Bool
  pub full : is_full some ≡ false
  pub swept : Swept
  pub unclean : is_clean swept ≡ false
  pub is : stand ≡ Left
  pub calls : Then (Only (Populated id some)) (IsSweep id swept) ts

-- it was swept, and then forgotten
pub record IsCleaned (id : ℕ) (stand : Stand) (ts : List Telling) : Type 0 where
  pub some : Option Bool
  pub full : is_full some ≡ false
  pub swept : Swept
  pub clean : is_clean swept ≡ true
  pub calls : Then (Then (Only (Populated id some)) (IsSweep id swept)) (IsForgetting id stand) ts

abbrev pub IsClean : ℕ → Stand → List Telling → Type 0
IsClean id stand ts = IsTakenUp id stand ts ⊎ (IsLeftOver id stand ts ⊎ IsCleaned id stand ts)

abbrev pub IsAnyClean : ℕ → List Telling → Type 0
IsAnyClean id ts = (stand : Stand) × IsClean id stand ts

-- what was done after a look
abbrev pub IsSettlingBy : ℕ → Look → Stand → List Telling → Type 0
IsSettlingBy id Waits stand ts = (stand ≡ Left) × (ts ≡ [])
IsSettlingBy id (Lives end) stand ts = (stand ≡ stands.Lives end) × (ts ≡ [])
IsSettlingBy id Never stand ts = IsForgetting id stand ts
IsSettlingBy id (Over status) stand ts = IsForgetting id stand ts
IsSettlingBy id (Unclean token) stand ts = IsClean id stand ts

abbrev pub IsAnySettlingBy : ℕ → Look → List Telling → Type 0
IsAnySettlingBy id look ts = (stand : Stand) × IsSettlingBy id look stand ts

-- its start was cancelled first
pub record IsSettling (id : ℕ) (stand : Stand) (ts : List Telling) : Type 0 where
  pub look : Look
  pub calls : Then (Then (IsAnyCancel id) (IsLook id look)) (IsSettlingBy id look stand) ts

abbrev pub IsAnySettling : ℕ → List Telling → Type 0
IsAnySettling id ts = (stand : Stand) × IsSettling id stand ts

-- the note of a contract was read if it was not forgotten
pub record IsNoted (id : ℕ) (stand : Stand) (one : Option Found) (ts : List Telling) : Type 0 where
  pub note : Option Note
  pub is : one ≡ Some (record { id = id; note = note; stand = stand })
  pub asked : Only (NoteIs id note) ts

abbrev pub IsOne : ℕ → Option Found → List Telling → Type 0
IsOne id one ts =
    ((stand : Stand) × (is_gone stand ≡ true) × (one ≡ None) × IsSettling id stand ts)
    ⊎ ((stand : Stand) × (is_gone stand ≡ false) × Then (IsSettling id stand) (IsNoted id stand one) ts)

abbrev pub IsAnyOne : ℕ → List Telling → Type 0
IsAnyOne id ts = (one : Option Found) × IsOne id one ts

abbrev pub with_one : Option Found → List Found → List Found
with_one None fs = fs
with_one (Some f) fs = f ∷ fs

-- each of these, one after the other
abbrev pub IsFinding : List ℕ → List Found → List Telling → Type 0
IsFinding [] fs ts = (fs ≡ []) × (ts ≡ [])
IsFinding (id ∷ ids) fs ts =
    (one : Option Found) × (gs : List Found) × (fs ≡ with_one one gs) × Then (IsOne id one) (IsFinding ids gs) ts

abbrev pub IsAnyFinding : List ℕ → List Telling → Type 0
IsAnyFinding ids ts = (fs : List Found) × IsFinding ids fs ts

-- all that are there, and nothing is started
pub record IsBeginning (fs : List Found) (ts : List Telling) : Type 0 where
  pub ids : List ℕ
  pub calls : Then (Only (Listed ids)) (IsFinding ids fs) ts

abbrev pub IsAnyBeginning : List Telling → Type 0
IsAnyBeginning ts = (fs : List Found) × IsBeginning fs ts

-- What it means that a chronicle tells something of an instance.
use Rattle.std.specs.List.{AllByRecursion}
use Rattle.std.specs.Prelude.{◌≡◌, ◌⊎◌, ℕ, ◌==◌, ◌&&◌, List, [], ◌∷◌, ◌++◌, Bool, true, false, if◌then◌else◌, Option, Some, None}
use Rattle.smf_chronicle.specs.declared.entry.Entry.{Entry}
use Rattle.smf_chronicle.specs.declared.entry.Entry.TheVariants.{Happened, Life, Living}
use Rattle.smf_chronicle.specs.Lives.{Always, HasOneLive, live_told}
use Rattle.smf_state.specs.declared.state.State.{State}
use Rattle.smf_world.specs.declared.item.Item.{Item}
use Rattle.smf_world.specs.declared.item.Item.TheVariants.{Boot, Spawned, Emptied}
use Rattle.smf_world.specs.Safe.{LiveStart, is_start}
use Rattle.smf_show.specs.Past.{contract_in, standing_in, state_told}
use Rattle.smf_show.specs.declared.past.Dated.{Dated}

-- ---- since when

-- a line tells no other state of an instance
abbrev pub TellsNoOther : ℕ → State → Dated → Type 0
TellsNoOther i s l = (told : State) → state_told i l.entry ≡ Some told → told ≡ s

-- a line of this time tells the state, those before it told another one last, and those behind it tell no other one
pub record IsSince (i : ℕ) (s : State) (time : ℕ) (lines : List Dated) : Type 0 where
  pub before : List Dated
  pub line : Dated
  pub behind : List Dated
  pub parts : lines ≡ before ++ line ∷ behind
  pub when : line.time ≡ time
  pub told : state_told i line.entry ≡ Some s
  pub earlier : State
  pub was : (standing_in i before).state ≡ Some earlier
  pub other : earlier ≡ s → ⊥
  pub lasts : AllByRecursion (TellsNoOther i s) behind

abbrev pub SinceIsToldBy : List Dated → Type 0
SinceIsToldBy lines =
    (i : ℕ) (s : State) (time : ℕ) → (standing_in i lines).state ≡ Some s → (standing_in i lines).since ≡ Some time
    → IsSince i s time lines

-- ---- what lives

abbrev pub begun_by_item : ℕ → Item → Option ℕ
begun_by_item i (Spawned c j run method revision command) = if j == i && is_start method then Some c else None
begun_by_item i item = None

-- the start contract of an instance that was begun, or that a life found
abbrev pub begun_by : ℕ → Entry → Option ℕ
begun_by i (Happened item) = begun_by_item i item
begun_by i (Living c j) = if j == i then Some c else None
begun_by i entry = None

-- a contract is over: it was found empty, or the system or the manager began again
abbrev pub ends : ℕ → Entry → Bool
ends c (Happened (Emptied d)) = c == d
ends c (Happened Boot) = true
ends c Life = true
ends c entry = false

-- a line begins the contract, and no line behind it ends it
pub record IsLive (i c : ℕ) (lines : List Dated) : Type 0 where
  pub before : List Dated
  pub line : Dated
  pub behind : List Dated
  pub parts : lines ≡ before ++ line ∷ behind
  pub begun : begun_by i line.entry ≡ Some c
  pub lasts : AllByRecursion (λ l. ends c l.entry ≡ false) behind

abbrev pub ContractLivesIn : List Dated → Type 0
ContractLivesIn lines = (i c : ℕ) → contract_in i lines ≡ Some c → IsLive i c lines

-- ---- what an audit of the chronicle says

-- the entries of lines behind what was told before, newest first
abbrev pub told_behind : List Entry → List Dated → List Entry
told_behind told [] = told
told_behind told (l ∷ ls) = told_behind (l.entry ∷ told) ls

abbrev pub told_by : List Dated → List Entry
told_by lines = told_behind [] lines

-- the contract is a live start of the instance
abbrev pub IsLiveStart : ℕ → ℕ → List LiveStart → Type 0
IsLiveStart c i [] = ⊥
IsLiveStart c i (s ∷ ss) = ((s.contract ≡ c) × (s.instance ≡ i)) ⊎ IsLiveStart c i ss

-- the contract is a live start. If no instance ever has two, it is the only one
pub record TellsLiveStart (lines : List Dated) : Type 0 where
  pub lives : (i c : ℕ) → contract_in i lines ≡ Some c → IsLiveStart c i (live_told (told_by lines))
  pub only : Always HasOneLive (told_by lines) → (i c : ℕ) → IsLiveStart c i (live_told (told_by lines))
      → contract_in i lines ≡ Some c

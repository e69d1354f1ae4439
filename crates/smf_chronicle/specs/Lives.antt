-- What is safe in a chronicle of all lives of the manager. A chronicle has the newest entry first.
use Rattle.std.specs.Prelude.{◌≡◌, ◌⊎◌, ◌<◌, ℕ, ◌+◌, ◌==◌, not, List, [], ◌∷◌, filter, Bool, true, false, if◌then◌else◌, Option, Some, None, option_map}
use Rattle.smf_chronicle.specs.declared.entry.Entry.{Entry}
use Rattle.smf_chronicle.specs.declared.entry.Entry.TheVariants.{Happened, Life, Row, Living}
use Rattle.smf_state.specs.declared.state.State.{State}
use Rattle.smf_state.specs.declared.state.State.TheVariants.{Uninitialized}
use Rattle.smf_world.specs.declared.item.Item.{Item}
use Rattle.smf_world.specs.declared.item.Item.TheVariants.{Boot, Committed, Held, Spawned, Emptied}
use Rattle.smf_world.specs.Safe.{LiveStart, OneEach, StateFollows, begun_start, is_start}

-- at every place of a chronicle, of what was told before and of the entry
abbrev pub Always : (List Entry → Entry → Type 0) → List Entry → Type 0
Always holds [] = Unit {0}
Always holds (entry ∷ told) = holds told entry × Always holds told

-- ---- what is found

-- a life begins: it has told no more than what it found
abbrev pub is_beginning : List Entry → Bool
is_beginning (Life ∷ told) = true
is_beginning (Row i n s ∷ told) = true
is_beginning (Living c i ∷ told) = true
is_beginning _ = false

-- what a life finds it tells as it begins
abbrev pub IsFoundFirst : List Entry → Entry → Type 0
IsFoundFirst told (Row i n s) = is_beginning told ≡ true
IsFoundFirst told (Living c i) = is_beginning told ≡ true
IsFoundFirst told entry = Unit {0}

-- ---- live starts

abbrev pub live_behind : Item → List LiveStart → List LiveStart
live_behind (Spawned c i run method revision command) ls = begun_start (is_start method) c i ls
live_behind (Emptied c) ls = filter (λ l. not (l.contract == c)) ls
live_behind Boot ls = []
live_behind item ls = ls

-- those that live: what lived before a life is over, unless this life found it alive
abbrev pub live_told : List Entry → List LiveStart
live_told [] = []
live_told (Happened item ∷ told) = live_behind item (live_told told)
live_told (Life ∷ told) = []
live_told (Row i n s ∷ told) = live_told told
live_told (Living c i ∷ told) = begun_start true c i (live_told told)

-- no instance has two live starts
abbrev pub HasOneLive : List Entry → Entry → Type 0
HasOneLive told entry = OneEach (live_told (entry ∷ told))

-- ---- rows

-- a row of an instance
pub record ToldRow : Type 0 where
  pub instance : ℕ
  pub number : ℕ
  pub state : State

abbrev pub committed_row : Item → Option ToldRow
committed_row (Committed i n s next) = Some (record { instance = i; number = n; state = s })
committed_row item = None

-- the row that an entry tells as committed or found
abbrev pub row_told : Entry → Option ToldRow
row_told (Happened item) = committed_row item
row_told (Row i n s) = Some (record { instance = i; number = n; state = s })
row_told entry = None

abbrev pub IsNumber : ℕ → ℕ → Option ToldRow → Type 0
IsNumber i number None = ⊥
IsNumber i number (Some r) = (r.instance ≡ i) × (r.number ≡ number)

-- a row of an instance was told with this number
abbrev pub WasToldAs : ℕ → ℕ → List Entry → Type 0
WasToldAs i number [] = ⊥
WasToldAs i number (entry ∷ told) = IsNumber i number (row_told entry) ⊎ WasToldAs i number told

abbrev pub IsRow : ℕ → ℕ → State → Option ToldRow → Type 0
IsRow i number state None = ⊥
IsRow i number state (Some r) = ((r.instance ≡ i) × (r.number ≡ number)) × (r.state ≡ state)

-- a row of an instance was told with this number in this state
abbrev pub WasTold : ℕ → ℕ → State → List Entry → Type 0
WasTold i number state [] = ⊥
WasTold i number state (entry ∷ told) = IsRow i number state (row_told entry) ⊎ WasTold i number state told

-- each row that a restarter took was committed or found before
abbrev pub IsHeldTold : List Entry → Entry → Type 0
IsHeldTold told (Happened (Held name launch i number state)) = WasTold i number state told
IsHeldTold told entry = Unit {0}

-- a number is committed once, and it is found only in the state in which it was told before
abbrev pub IsNumberedOnce : List Entry → Entry → Type 0
IsNumberedOnce told (Happened (Committed i number state next)) = WasToldAs i number told → ⊥
IsNumberedOnce told (Row i number state) = WasToldAs i number told → WasTold i number state told
IsNumberedOnce told entry = Unit {0}

-- ---- along the diagram

-- the last row of an instance that was told. A boot or a life may have begun since
pub record LastTold : Type 0 where
  pub number : ℕ
  pub state : State
  pub booted : Bool
  pub older : Bool

abbrev pub behind_boot : LastTold → LastTold
behind_boot l = record l { booted = true }

abbrev pub behind_life : LastTold → LastTold
behind_life l = record l { older = true }

abbrev pub last_row : ℕ → ℕ → ℕ → State → Option LastTold → Option LastTold
last_row i j n s before =
    if j == i then Some (record { number = n; state = s; booted = false; older = false }) else before

abbrev pub last_behind : ℕ → Item → Option LastTold → Option LastTold
last_behind i (Committed j n s next) before = last_row i j n s before
last_behind i Boot before = option_map behind_boot before
last_behind i item before = before

abbrev pub last_told : ℕ → List Entry → Option LastTold
last_told i [] = None
last_told i (Happened item ∷ told) = last_behind i item (last_told i told)
last_told i (Life ∷ told) = option_map behind_life (last_told i told)
last_told i (Row j n s ∷ told) = last_row i j n s (last_told i told)
last_told i (Living c j ∷ told) = last_told i told

-- what a life did not find is gone: an instance with its number begins as a new one, with a greater number of its row
abbrev pub FollowsLast : Bool → LastTold → ℕ → State → Type 0
FollowsLast true l number state = (l.number < number) × (state ≡ Uninitialized)
FollowsLast false l number state = (number ≡ l.number + 1) × StateFollows l.booted l.state state

-- a committed row follows on the last that was told
abbrev pub MayFollow : Option LastTold → ℕ → State → Type 0
MayFollow None number state = state ≡ Uninitialized
MayFollow (Some l) number state = FollowsLast l.older l number state

-- a life finds a row once: the last that was told, or a later one that was not written
abbrev pub IsFoundAfter : Bool → LastTold → ℕ → State → Type 0
IsFoundAfter true l number state = (l.number < number) ⊎ ((number ≡ l.number) × (state ≡ l.state))
IsFoundAfter false l number state = ⊥

abbrev pub MayBeFound : Option LastTold → ℕ → State → Type 0
MayBeFound None number state = Unit {0}
MayBeFound (Some l) number state = IsFoundAfter l.older l number state

abbrev pub FollowsTheDiagram : List Entry → Entry → Type 0
FollowsTheDiagram told (Happened (Committed i number state next)) = MayFollow (last_told i told) number state
FollowsTheDiagram told (Row i number state) = MayBeFound (last_told i told) number state
FollowsTheDiagram told entry = Unit {0}

-- ---- the whole

pub record IsSafeChronicle (told : List Entry) : Type 0 where
  pub found : Always IsFoundFirst told
  pub one : Always HasOneLive told
  pub held : Always IsHeldTold told
  pub once : Always IsNumberedOnce told
  pub diagram : Always FollowsTheDiagram told

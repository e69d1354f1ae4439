-- Tables of what was told, and what they say of the chronicle before.
use Rattle.std.specs.Prelude.{◌≡◌, ◌<◌, ℕ, ◌==◌, ◌&&◌, ◌||◌, not, nat_eq, nat_lt, List, [], ◌∷◌, length, Bool, true, false, cond, if◌then◌else◌, Option, Some, None, IfSome, is_some}
use Rattle.std.specs.HashMap.{get}
use Rattle.smf_chronicle.specs.declared.entry.Entry.{Entry}
use Rattle.smf_chronicle.specs.declared.entry.Entry.TheVariants.{Happened, Life, Row, Living}
use Rattle.smf_chronicle.specs.declared.rule.Rule.{Rule}
use Rattle.smf_chronicle.specs.declared.tables.LastRow.{LastRow}
use Rattle.smf_chronicle.specs.declared.tables.LastStart.{LastStart}
use Rattle.smf_chronicle.specs.declared.tables.Tables.{Tables}
use Rattle.smf_state.specs.declared.state.State.{State}
use Rattle.smf_state.specs.Rows.{same_state}
use Rattle.smf_world.specs.declared.item.Item.{Item}
use Rattle.smf_world.specs.declared.item.Item.TheVariants.{Boot, Committed, Held, Spawned, Emptied}
use Rattle.smf_world.specs.Safe.{LiveStart, OneEach, is_start}
use Rattle.smf_chronicle.specs.Breaches.{first_false, may_be_found, may_follow}
use Rattle.smf_chronicle.specs.Lives.{Always, IsNumberedOnce, LastTold, ToldRow, is_beginning, last_told, live_told, row_told}

-- ---- what the tables say

-- two keys of rows are one
abbrev pub same_row : ℕ × ℕ → ℕ × ℕ → Bool
same_row a b = a.0 == b.0 && a.1 == b.1

-- something that may have happened did so after a place
abbrev pub is_after : Option ℕ → ℕ → Bool
is_after None place = false
is_after (Some at) place = nat_lt place at

abbrev pub told_by : Option ℕ → Option ℕ → LastRow → LastTold
told_by boot life r =
    record { number = r.number; state = r.state; booted = is_after boot r.place; older = is_after life r.place }

abbrev pub last_by : Option ℕ → Option ℕ → Option LastRow → Option LastTold
last_by boot life None = None
last_by boot life (Some r) = Some (told_by boot life r)

-- a start at a place is over by now
abbrev pub is_over : Option ℕ → Option ℕ → Option ℕ → ℕ → Bool
is_over boot life emptied place = (is_after boot place || is_after life place) || is_after emptied place

-- the contract of a start that lives
abbrev pub live_by : Option ℕ → Option ℕ → (ℕ → Option ℕ) → Option LastStart → Option ℕ
live_by boot life emptied None = None
live_by boot life emptied (Some s) =
    if is_over boot life (emptied s.contract) s.place then None else Some s.contract

abbrev pub state_in : Tables → ℕ → ℕ → Option State
state_in t i number = get same_row t.rows (i, number)

abbrev pub last_in : Tables → ℕ → Option LastTold
last_in t i = last_by t.boot t.life (get nat_eq t.lasts i)

abbrev pub live_in : Tables → ℕ → Option ℕ
live_in t i = live_by t.boot t.life (get nat_eq t.emptied) (get nat_eq t.starts i)

-- ---- the rule that an entry breaks, by the tables

abbrev pub is_held_as : Option State → State → Bool
is_held_as None state = false
is_held_as (Some s) state = same_state s state

-- a number was not told, or in this state
abbrev pub is_free_for : Option State → State → Bool
is_free_for told state = not (is_some told) || is_held_as told state

-- a start of an instance may begin: it is of no contract, or none lives
abbrev pub may_start : ℕ → Option ℕ → Bool
may_start contract live = contract == 0 || not (is_some live)

abbrev pub breach_of_item : Tables → Item → Option Rule
breach_of_item t (Committed i number state next) =
    first_false true true true (not (is_some (state_in t i number))) (may_follow (last_in t i) number state)
breach_of_item t (Held name launch i number state) =
    first_false true true (is_held_as (state_in t i number) state) true true
breach_of_item t (Spawned contract i run method revision command) =
    first_false true (not (is_start method) || may_start contract (live_in t i)) true true true
breach_of_item t item = None

abbrev pub breach_in : Tables → Entry → Option Rule
breach_in t (Happened item) = breach_of_item t item
breach_in t Life = None
breach_in t (Row i number state) =
    first_false t.beginning true true (is_free_for (state_in t i number) state) (may_be_found (last_in t i) number state)
breach_in t (Living contract i) = first_false t.beginning (may_start contract (live_in t i)) true true true

-- ---- what the tables know

abbrev pub state_or : ℕ → ℕ → Option ToldRow → Option State → Option State
state_or i number None before = before
state_or i number (Some r) before = if r.instance == i && r.number == number then Some r.state else before

-- the state in which a row was told
abbrev pub state_of : ℕ → ℕ → List Entry → Option State
state_of i number [] = None
state_of i number (entry ∷ told) = state_or i number (row_told entry) (state_of i number told)

-- the contract of an instance's start
abbrev pub contract_in : ℕ → List LiveStart → Option ℕ
contract_in i [] = None
contract_in i (l ∷ ls) = if l.instance == i then Some l.contract else contract_in i ls

-- all that is noted stands at places before this one
pub record AreBefore (place : ℕ) (t : Tables) : Type 0 where
  pub boot : IfSome t.boot (λ at. at < place)
  pub life : IfSome t.life (λ at. at < place)
  pub last : (i : ℕ) → IfSome (get nat_eq t.lasts i) (λ r. r.place < place)
  pub start : (i : ℕ) → IfSome (get nat_eq t.starts i) (λ s. s.place < place)
  pub emptied : (c : ℕ) → IfSome (get nat_eq t.emptied c) (λ at. at < place)

-- the tables say of each row whether it was told, of each instance its last row and its live start, and whether a life
-- begins
pub record Knows (t : Tables) (told : List Entry) : Type 0 where
  pub beginning : t.beginning ≡ is_beginning told
  pub rows : (i number : ℕ) → state_in t i number ≡ state_of i number told
  pub lasts : (i : ℕ) → last_in t i ≡ last_told i told
  pub starts : (i : ℕ) → live_in t i ≡ contract_in i (live_told told)
  pub before : AreBefore (length told) t
  pub once : Always IsNumberedOnce told
  pub one : OneEach (live_told told)

-- ---- one more entry

-- a map has another value at one key
abbrev pub Puts : {K X : Type 0} → (K → K → Bool) → K → X → (K → Option X) → (K → Option X) → Type 0
Puts {K = K} same key x old new = (q : K) → new q ≡ cond (same key q) (Some x) (old q)

pub record IsRowNoted (place i number : ℕ) (state : State) (old new : Tables) : Type 0 where
  pub rows : Puts same_row (i, number) state (get same_row old.rows) (get same_row new.rows)
  pub lasts : Puts nat_eq i (record { number = number; state = state; place = place }) (get nat_eq old.lasts)
      (get nat_eq new.lasts)
  pub beginning : new.beginning ≡ old.beginning
  pub boot : new.boot ≡ old.boot
  pub life : new.life ≡ old.life
  pub starts : new.starts ≡ old.starts
  pub emptied : new.emptied ≡ old.emptied

pub record IsStartNoted (place contract i : ℕ) (old new : Tables) : Type 0 where
  pub starts : Puts nat_eq i (record { contract = contract; place = place }) (get nat_eq old.starts)
      (get nat_eq new.starts)
  pub beginning : new.beginning ≡ old.beginning
  pub boot : new.boot ≡ old.boot
  pub life : new.life ≡ old.life
  pub rows : new.rows ≡ old.rows
  pub lasts : new.lasts ≡ old.lasts
  pub emptied : new.emptied ≡ old.emptied

pub record IsEmptiedNoted (place contract : ℕ) (old new : Tables) : Type 0 where
  pub emptied : Puts nat_eq contract place (get nat_eq old.emptied) (get nat_eq new.emptied)
  pub beginning : new.beginning ≡ old.beginning
  pub boot : new.boot ≡ old.boot
  pub life : new.life ≡ old.life
  pub rows : new.rows ≡ old.rows
  pub lasts : new.lasts ≡ old.lasts
  pub starts : new.starts ≡ old.starts

-- a start is noted unless it has no contract
abbrev pub IsStartNotedIf : Bool → ℕ → ℕ → ℕ → Tables → Tables → Type 0
IsStartNotedIf true place contract i old new = IsStartNoted place contract i old new
IsStartNotedIf false place contract i old new = new ≡ old

-- an item at a place is noted in the tables
abbrev pub IsItemNoted : ℕ → Item → Tables → Tables → Type 0
IsItemNoted place (Committed i number state next) old new = IsRowNoted place i number state old new
IsItemNoted place (Held name launch i number state) old new = new ≡ old
IsItemNoted place (Spawned contract i run method revision command) old new =
    IsStartNotedIf (is_start method && not (contract == 0)) place contract i old new
IsItemNoted place (Emptied contract) old new = IsEmptiedNoted place contract old new
IsItemNoted place Boot old new = new ≡ record old { boot = Some place }

-- an entry at a place is noted in the tables
abbrev pub IsNoted : ℕ → Entry → Tables → Tables → Type 0
IsNoted place (Happened item) old new = IsItemNoted place item (record old { beginning = false }) new
IsNoted place Life old new = new ≡ record old { beginning = true; life = Some place }
IsNoted place (Row i number state) old new = IsRowNoted place i number state old new
IsNoted place (Living contract i) old new = IsStartNotedIf (not (contract == 0)) place contract i old new

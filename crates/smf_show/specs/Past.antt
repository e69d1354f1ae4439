-- What a chronicle tells of an instance. Its lines stand in the order in which they were written.
use Rattle.std.specs.Prelude.{ℕ, ◌==◌, ◌&&◌, not, List, [], ◌∷◌, count_by, Bool, false, if◌then◌else◌, Option, Some, None}
use Rattle.smf_chronicle.specs.declared.entry.Entry.{Entry}
use Rattle.smf_chronicle.specs.declared.entry.Entry.TheVariants.{Happened, Life, Row, Living}
use Rattle.smf_state.specs.declared.state.State.{State}
use Rattle.smf_state.specs.Rows.{same_state}
use Rattle.smf_world.specs.declared.item.Item.{Item}
use Rattle.smf_world.specs.declared.item.Item.TheVariants.{Boot, Committed, Spawned, Emptied}
use Rattle.smf_world.specs.Safe.{is_start}
use Rattle.smf_show.specs.declared.past.Dated.{Dated}
use Rattle.smf_show.specs.declared.past.Past.{Past}
use Rattle.smf_show.specs.declared.past.Standing.{Standing}

-- ---- its state

-- the state of an instance that an item commits
abbrev pub state_committed : ℕ → Item → Option State
state_committed i (Committed j n s next) = if j == i then Some s else None
state_committed i item = None

-- the state of an instance that an entry tells: it was committed, or a life found it
abbrev pub state_told : ℕ → Entry → Option State
state_told i (Happened item) = state_committed i item
state_told i (Row j n s) = if j == i then Some s else None
state_told i entry = None

-- a state that is told: it lasts, or it came in place of another one. Since when the first one was there is not told
abbrev pub standing_with : ℕ → State → Option State → Standing → Standing
standing_with time s None before = record { state = Some s; since = None }
standing_with time s (Some told) before =
    if same_state told s then before else record { state = Some s; since = Some time }

abbrev pub standing_if : ℕ → Option State → Standing → Standing
standing_if time None before = before
standing_if time (Some s) before = standing_with time s before.state before

abbrev pub standing_behind : ℕ → Standing → List Dated → Standing
standing_behind i before [] = before
standing_behind i before (l ∷ ls) = standing_behind i (standing_if l.time (state_told i l.entry) before) ls

-- nothing was told
abbrev pub nothing_told : Standing
nothing_told = record { state = None; since = None }

-- the last state of an instance, and since when
unfoldable pub standing_in : ℕ → List Dated → Standing
standing_in i lines = standing_behind i nothing_told lines

-- ---- its starts

abbrev pub is_start_item : ℕ → Item → Bool
is_start_item i (Spawned c j run method revision command) = j == i && is_start method
is_start_item i item = false

abbrev pub is_start_of : ℕ → Entry → Bool
is_start_of i (Happened item) = is_start_item i item
is_start_of i entry = false

-- how often it was started
unfoldable pub starts_in : ℕ → List Dated → ℕ
starts_in i lines = count_by (λ l. is_start_of i l.entry) lines

-- ---- its contract

-- a start of an instance is there, but for a built-in one, which has no contract
abbrev pub begun : Bool → ℕ → Option ℕ → Option ℕ
begun is_own c before = if is_own && not (c == 0) then Some c else before

abbrev pub unless_emptied : ℕ → Option ℕ → Option ℕ
unless_emptied c None = None
unless_emptied c (Some live) = if live == c then None else Some live

abbrev pub live_behind_item : ℕ → Item → Option ℕ → Option ℕ
live_behind_item i (Spawned c j run method revision command) before = begun (j == i && is_start method) c before
live_behind_item i (Emptied c) before = unless_emptied c before
live_behind_item i Boot before = None
live_behind_item i item before = before

-- the start contract of an instance that lives behind an entry: a life finds those that live still
abbrev pub live_behind : ℕ → Entry → Option ℕ → Option ℕ
live_behind i (Happened item) before = live_behind_item i item before
live_behind i Life before = None
live_behind i (Living c j) before = begun (j == i) c before
live_behind i entry before = before

abbrev pub contract_behind : ℕ → Option ℕ → List Dated → Option ℕ
contract_behind i before [] = before
contract_behind i before (l ∷ ls) = contract_behind i (live_behind i l.entry before) ls

-- the start contract that lives
unfoldable pub contract_in : ℕ → List Dated → Option ℕ
contract_in i lines = contract_behind i None lines

-- ---- all of it

abbrev pub past_of : List Dated → ℕ → Past
past_of lines i = record { standing = standing_in i lines; starts = starts_in i lines; contract = contract_in i lines }

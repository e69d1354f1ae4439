-- Clauses on the rows that the repository holds and held, each on the fields that it speaks of.
use Rattle.std.specs.Prelude.{◌≡◌, ◌⊎◌, ◌+◌, ◌<◌, ◌≤◌, ℕ, ◌&&◌, ◌||◌, not, Bool, true, false, List, Option, Some, None, is_some, is_none}
use Rattle.smf_state.specs.declared.row.Row.{Row}
use Rattle.smf_state.specs.declared.state.State.{State}
use Rattle.smf_state.specs.declared.state.State.TheVariants.{Uninitialized, Offline, Online}
use Rattle.smf_state.specs.declared.step.Proposal.{Proposal}
use Rattle.smf_state.specs.declared.step.Step.{Step}
use Rattle.smf_state.specs.declared.step.Step.TheVariants.{Move, Start, Stop, Refresh, End, Note}
use Rattle.smf_state.specs.Rows.{is_stopped, refusal, same_state}
use Rattle.smf_state.specs.States.{runs}
use Rattle.smf_model.specs.declared.held.Instance.{Instance}
use Rattle.smf_model.specs.History.{History, value_at}
use Rattle.smf_model.specs.Contents.{Holdings}
use Rattle.smf_model.specs.Laws.{Stays}
use Rattle.smf_model.specs.Look.{instance, launch_of}
use Rattle.smf_model.specs.Next.{is_other_snapshot}
use Rattle.smf_wire.specs.declared.message.Message.{Message}
use Rattle.smf_wire.specs.declared.message.Message.TheVariants as messages
use Rattle.smf_world.specs.declared.item.Item.{Item}
use Rattle.smf_world.specs.Safe.{WasSpawned}
use Rattle.smf_world.proofs.LiveLists.{IsIn}

-- ---- one row

-- a row of number 0
pub record IsUnbegun (r : Row) : Type 0 where
  pub state : r.state ≡ Uninitialized
  pub next : r.next ≡ None
  pub live : r.live ≡ None
  pub side : r.side ≡ None
  pub last : r.last ≡ 0
  pub launch : r.launch ≡ 0
  pub serial : r.serial ≡ 0

-- the states that a transition may lead to: from offline to online, and from a running state to itself or to a stopped
-- one
abbrev pub may_be_next : State → Option State → Bool
may_be_next s None = true
may_be_next Offline (Some n) = same_state n Online
may_be_next s (Some n) = runs s && (same_state n s || is_stopped n)

-- an instance that does not run has a live run while it starts alone, and no side run. No side run is left of a
-- transition that ended
pub record IsShaped (r : Row) : Type 0 where
  pub next : may_be_next r.state r.next ≡ true
  pub live : runs r.state ≡ false → is_some r.live ≡ is_some r.next
  pub alone : runs r.state ≡ false → r.side ≡ None
  pub side : r.next ≡ None → r.side ≡ None

-- its runs are among those that it was given, and apart; a start has the newest
pub record HasRuns (r : Row) : Type 0 where
  pub live : (run : ℕ) → r.live ≡ Some run → (1 ≤ run) × (run ≤ r.last)
  pub side : (run : ℕ) → r.side ≡ Some run → (1 ≤ run) × (run ≤ r.last)
  pub apart : (run : ℕ) → r.live ≡ Some run → r.side ≡ Some run → ⊥
  pub newest : r.state ≡ Offline → r.next ≡ Some Online → r.live ≡ Some r.last

-- a row as a value holds it
pub record IsFit (h : Holdings) (r : Row) : Type 0 where
  pub zero : r.number ≡ 0 → IsUnbegun r
  pub shape : IsShaped r
  pub runs : HasRuns r
  pub launch : r.launch ≤ launch_of h r.owner
  pub unserved : r.launch ≡ 0 → r.serial ≡ 0
  pub served : r.serial ≡ 0 → r.launch ≡ 0

abbrev pub AreFit : Holdings → Type 0
AreFit h = (n : ℕ) (i : Instance) → instance h n ≡ Some i → IsFit h i.row

-- ---- rows of one instance

-- a row, and a later one of the same instance or itself
pub record IsBefore (r s : Row) : Type 0 where
  pub number : r.number ≤ s.number
  pub last : r.last ≤ s.last
  pub same : r.number ≡ s.number → Stays r s

-- a row that the instance n had, or has
pub record WasRow (h : Holdings) (n : ℕ) (r : Row) : Type 0 where
  pub known : n < h.next_instance
  pub before : (i : Instance) → instance h n ≡ Some i → IsBefore r i.row

-- ---- the history

-- each row of the history was the instance's
abbrev pub WereRows : History → Holdings → Type 0
WereRows y h = (m : ℕ) (v : Holdings) (n : ℕ) (i : Instance) → value_at y m ≡ Some v → instance v n ≡ Some i
    → WasRow h n i.row

-- the row with which a start began, in a value after the one that it was decided on
pub record WasAnnounced (y : History) (n : ℕ) (r : Row) : Type 0 where
  pub revision : ℕ
  pub value : Holdings
  pub of : Instance
  pub after : r.base < revision
  pub at : value_at y revision ≡ Some value
  pub there : instance value n ≡ Some of
  pub number : of.row.number ≡ r.number
  pub state : of.row.state ≡ Offline
  pub next : of.row.next ≡ Some Online
  pub live : of.row.live ≡ r.live
  pub base : of.row.base ≡ r.base
  pub snapshot : of.row.running ≡ r.begun

abbrev pub AreAnnounced : History → Holdings → Type 0
AreAnnounced y h =
    (n : ℕ) (i : Instance)
    → instance h n ≡ Some i
    → i.row.state ≡ Offline
    → i.row.next ≡ Some Online
    → WasAnnounced y n i.row

-- ---- what steps leave

pub record LeftByMove (to : State) (r : Row) : Type 0 where
  pub state : r.state ≡ to
  pub next : r.next ≡ None
  pub side : r.side ≡ None
  pub live : runs to ≡ false → r.live ≡ None

pub record LeftByStart (start : Step) (r : Row) : Type 0 where
  pub run : ℕ
  pub snapshot : ℕ
  pub step : start ≡ Start run snapshot r.duration r.ignore r.base
  pub state : r.state ≡ Offline
  pub next : r.next ≡ Some Online
  pub live : r.live ≡ Some run
  pub side : r.side ≡ None
  pub last : r.last ≡ run
  pub begun : r.begun ≡ Some snapshot

pub record LeftByStop (stop : Step) (r : Row) : Type 0 where
  pub to : State
  pub cause : _
  pub step : stop ≡ Stop to cause r.side
  pub state : runs r.state ≡ true
  pub stopped : is_stopped to ≡ true
  pub next : r.next ≡ Some to
  pub of : r.cause ≡ Some cause
  pub last : (run : ℕ) → r.side ≡ Some run → r.last ≡ run

pub record LeftByRefresh (run : Option ℕ) (r : Row) : Type 0 where
  pub state : runs r.state ≡ true
  pub next : r.next ≡ Some r.state
  pub side : r.side ≡ run
  pub last : (m : ℕ) → run ≡ Some m → r.last ≡ m

pub record LeftByEnd (to : State) (keep : Bool) (r : Row) : Type 0 where
  pub state : r.state ≡ to
  pub next : r.next ≡ None
  pub side : r.side ≡ None
  pub live : keep ≡ false → r.live ≡ None

pub record LeftByNote (keep : Bool) (r : Row) : Type 0 where
  pub state : runs r.state ≡ true
  pub next : r.next ≡ None
  pub side : r.side ≡ None
  pub live : keep ≡ false → r.live ≡ None

-- a row as a step leaves it
abbrev pub IsLeft : Step → Row → Type 0
IsLeft (Move to) r = LeftByMove to r
IsLeft (Start run snapshot duration ignore base) r = LeftByStart (Start run snapshot duration ignore base) r
IsLeft (Stop to cause run) r = LeftByStop (Stop to cause run) r
IsLeft (Refresh run) r = LeftByRefresh run r
IsLeft (End to keep failed cause) r = LeftByEnd to keep r
IsLeft (Note bits keep) r = LeftByNote keep r

-- ---- grants

-- a message is among those that were said
abbrev pub WasSaid : Message → List Message → Type 0
WasSaid m ms = IsIn m ms

abbrev pub WasProposed : Proposal → List Message → Type 0
WasProposed q ms = WasSaid (messages.Propose q) ms

-- the row of n is what a proposal that was said left
pub record WasGranted (ms : List Message) (n : ℕ) (r : Row) : Type 0 where
  pub by : Proposal
  pub said : WasProposed by ms
  pub proposer : by.proposer ≡ r.owner
  pub launch : by.launch ≡ r.launch
  pub serial : by.serial ≡ r.serial
  pub at : by.instance ≡ n
  pub number : by.number ≡ r.number
  pub left : IsLeft by.step r

pub record IsExplained (ms : List Message) (n : ℕ) (r : Row) : Type 0 where
  pub granted : 1 ≤ r.launch → WasGranted ms n r
  pub state : r.launch ≡ 0 → r.state ≡ Uninitialized
  pub next : r.launch ≡ 0 → r.next ≡ None

abbrev pub AreExplained : Holdings → List Message → Type 0
AreExplained h ms = (n : ℕ) (i : Instance) → instance h n ≡ Some i → IsExplained ms n i.row

-- ---- runs that were begun

pub record IsSpent (h : Holdings) (n run : ℕ) : Type 0 where
  pub known : n < h.next_instance
  pub last : (i : Instance) → instance h n ≡ Some i → run ≤ i.row.last

abbrev pub AreSpent : Holdings → List Item → Type 0
AreSpent h t = (n run : ℕ) → WasSpawned n run t → IsSpent h n run

-- ---- whether a proposal can be granted

-- its step is one for a row, and a start is of the row's snapshot
abbrev pub fits : Row → Step → Bool
fits r s = is_none (refusal r s) && not (is_other_snapshot r s)

-- it can never be granted anew
abbrev pub IsDead : Holdings → Proposal → Type 0
IsDead h q =
    (i : Instance) → instance h q.instance ≡ Some i → (q.number ≤ i.row.number) ⊎ (fits i.row q.step ≡ false)

-- it can be granted anew; the owner of a row of number 0 is what the configuration says
pub record IsOpen (h : Holdings) (q : Proposal) : Type 0 where
  pub of : Instance
  pub there : instance h q.instance ≡ Some of
  pub owner : (of.row.number ≡ 0) ⊎ (of.row.owner ≡ q.proposer)
  pub launch : q.launch ≡ launch_of h q.proposer
  pub number : q.number ≡ of.row.number + 1
  pub fits : fits of.row q.step ≡ true

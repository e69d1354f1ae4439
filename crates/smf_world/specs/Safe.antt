-- The facts that are safe to read off a trail.
use Rattle.std.specs.Prelude.{◌≡◌, ◌⊎◌, ◌<◌, ℕ, ◌+◌, ◌==◌, not, List, [], ◌∷◌, ◌++◌, map, filter, reverse, Bool, true, false, if◌then◌else◌, Option, Some, None, option_map, Ok, find}
use Rattle.smf_contract.specs.declared.cookie.Method.{Method}
use Rattle.smf_contract.specs.declared.cookie.Method.TheVariants as methods
use Rattle.smf_state.specs.declared.row.Row.{Row}
use Rattle.smf_state.specs.declared.state.State.{State}
use Rattle.smf_state.specs.declared.state.State.TheVariants.{Uninitialized, Offline, Online}
use Rattle.smf_state.specs.declared.view.ViewItem.{ViewItem}
use Rattle.smf_state.specs.States.{edge}
use Rattle.smf_method.specs.declared.call.ReadMethod.{ReadMethod}
use Rattle.smf_dep.specs.Members.{member_of, members}
use Rattle.smf_dep.specs.Places.{finding_of}
use Rattle.smf_engine.specs.Orders.{has_fault, is_about, method_in}
use Rattle.smf_model.specs.declared.command.Command.{Command}
use Rattle.smf_model.specs.declared.command.Command.TheVariants as commands
use Rattle.smf_model.specs.declared.held.Instance.{Instance}
use Rattle.smf_model.specs.History.{History, holdings_after_commands, value_at}
use Rattle.smf_model.specs.Contents.{Holdings}
use Rattle.smf_model.specs.Look.{instance, instances}
use Rattle.smf_model.specs.Shown.{view}
use Rattle.smf_world.specs.declared.item.Item.{Item}
use Rattle.smf_world.specs.declared.item.Item.TheVariants.{Boot, Committed, Held, Spawned, Emptied}
use Rattle.smf_world.specs.Items.{row_item}
use Rattle.smf_world.specs.World.{World}

-- ---- commits follow history

abbrev pub is_commit : Item → Bool
is_commit (Committed i n state next) = true
is_commit Boot = true
is_commit _ = false

-- the boots and the committed rows of a trail, newest first
abbrev pub commits : List Item → List Item
commits trail = filter is_commit trail

abbrev pub is_other_number : Option Instance → Instance → Bool
is_other_number None i = true
is_other_number (Some before) i = not (i.row.number == before.row.number)

-- a row is new, or has another number than it had
abbrev pub is_committed : Holdings → Instance → Bool
is_committed before i = is_other_number (instance before i.number) i

abbrev pub boot_alone : Command → List Item
boot_alone commands.Boot = Boot ∷ []
boot_alone _ = []

-- the items from one value to the next: a boot, and the rows that are new or have another number, in number order
abbrev pub made_items : Command → Holdings → Holdings → List Item
made_items c before after = boot_alone c ++ map row_item (filter (is_committed before) (instances after))

-- the boots and the rows of a history, newest first
abbrev pub commits_of : Holdings → List Command → List Item
commits_of h [] = []
commits_of h (c ∷ cs) =
    reverse (made_items c (holdings_after_commands h cs) (holdings_after_commands h (c ∷ cs))) ++ commits_of h cs

-- the commits that the trail shows are the history of the repository
pub record CommitsFollowHistory (w : World) : Type 0 where
  pub newest : w.now ≡ holdings_after_commands w.history.first w.history.past
  pub commits : commits w.trail ≡ commits_of w.history.first w.history.past

-- ---- along the diagram

-- the last commit of an instance, and the mark of a boot after it
pub record Last : Type 0 where
  pub number : ℕ
  pub state : State
  pub booted : Bool

abbrev pub behind_boot : Last → Last
behind_boot l = record l { booted = true }

abbrev pub last_of : ℕ → List Item → Option Last
last_of i [] = None
last_of i (Committed j n state next ∷ trail) =
    if j == i then Some (record { number = n; state = state; booted = false }) else last_of i trail
last_of i (Boot ∷ trail) = option_map behind_boot (last_of i trail)
last_of i (item ∷ trail) = last_of i trail

-- a state after another: after a boot it is uninitialized, and else it is the same or one edge away
abbrev pub StateFollows : Bool → State → State → Type 0
StateFollows true before after = after ≡ Uninitialized
StateFollows false before after = (after ≡ before) ⊎ (edge before after ≡ true)

-- an instance is first uninitialized, and then its number rises by one each time
abbrev pub RowFollows : Option Last → ℕ → State → Type 0
RowFollows None number state = state ≡ Uninitialized
RowFollows (Some l) number state = (number ≡ l.number + 1) × StateFollows l.booted l.state state

abbrev pub AlongTheDiagram : List Item → Type 0
AlongTheDiagram [] = Unit {0}
AlongTheDiagram (Committed i n state next ∷ trail) = RowFollows (last_of i trail) n state × AlongTheDiagram trail
AlongTheDiagram (item ∷ trail) = AlongTheDiagram trail

-- ---- committed once

-- a row of an instance was committed with this number
abbrev pub WasNumbered : ℕ → ℕ → List Item → Type 0
WasNumbered i number [] = ⊥
WasNumbered i number (Committed j n s next ∷ trail) = ((j ≡ i) × (n ≡ number)) ⊎ WasNumbered i number trail
WasNumbered i number (item ∷ trail) = WasNumbered i number trail

-- no two commits of an instance share a number
abbrev pub CommittedOnce : List Item → Type 0
CommittedOnce [] = Unit {0}
CommittedOnce (Committed i n state next ∷ trail) = (WasNumbered i n trail → ⊥) × CommittedOnce trail
CommittedOnce (item ∷ trail) = CommittedOnce trail

-- ---- held was committed

-- a row of an instance was committed with this number in this state
abbrev pub WasCommitted : ℕ → ℕ → State → List Item → Type 0
WasCommitted i number state [] = ⊥
WasCommitted i number state (Committed j n s next ∷ trail) =
    ((j ≡ i) × (n ≡ number) × (s ≡ state)) ⊎ WasCommitted i number state trail
WasCommitted i number state (item ∷ trail) = WasCommitted i number state trail

-- each row that a restarter took was committed before
abbrev pub HeldWereCommitted : List Item → Type 0
HeldWereCommitted [] = Unit {0}
HeldWereCommitted (Held name launch i number state ∷ trail) =
    WasCommitted i number state trail × HeldWereCommitted trail
HeldWereCommitted (item ∷ trail) = HeldWereCommitted trail

-- ---- at most one live start

-- a start contract that was spawned, and has neither been found empty nor gone with a boot
pub record LiveStart : Type 0 where
  pub contract : ℕ
  pub instance : ℕ

abbrev pub is_start : Method → Bool
is_start methods.Start = true
is_start methods.Stop = false
is_start methods.Refresh = false

abbrev pub begun_start : Bool → ℕ → ℕ → List LiveStart → List LiveStart
begun_start true c i ls = if c == 0 then ls else record { contract = c; instance = i } ∷ ls
begun_start false c i ls = ls

-- those that live after a trail; a built-in has no contract, and never lives
abbrev pub live_starts : List Item → List LiveStart
live_starts [] = []
live_starts (Spawned c i run method revision command ∷ trail) = begun_start (is_start method) c i (live_starts trail)
live_starts (Emptied c ∷ trail) = filter (λ l. not (l.contract == c)) (live_starts trail)
live_starts (Boot ∷ trail) = []
live_starts (item ∷ trail) = live_starts trail

abbrev pub IsLiveIn : ℕ → List LiveStart → Type 0
IsLiveIn i [] = ⊥
IsLiveIn i (l ∷ ls) = (l.instance ≡ i) ⊎ IsLiveIn i ls

abbrev pub OneEach : List LiveStart → Type 0
OneEach [] = Unit {0}
OneEach (l ∷ ls) = (IsLiveIn l.instance ls → ⊥) × OneEach ls

-- at every place of the trail each instance has at most one live start
abbrev pub OneLive : List Item → Type 0
OneLive [] = Unit {0}
OneLive (item ∷ trail) = OneEach (live_starts (item ∷ trail)) × OneLive trail

-- ---- starts are well decided

-- an instance as a value shows it: offline with nothing under way, enabled, without a fault, each group met. This is
-- the command of its running snapshot's start method
pub record IsReady (v : Holdings) (i : ℕ) (row : Row) (command : List ℕ) : Type 0 where
  pub item : ViewItem
  pub read : ReadMethod
  pub found : find (is_about i) (view v).items ≡ Some item
  pub row_of : item.row ≡ row
  pub offline : row.state ≡ Offline
  pub at_rest : row.next ≡ None
  pub enabled : item.enabled ≡ true
  pub sound : has_fault item (member_of item) (finding_of (members (view v).items) (member_of item)) ≡ false
  pub met : (finding_of (members (view v).items) (member_of item)).all_met ≡ true
  pub method : method_in item (member_of item) methods.Start ≡ Ok (Some read)
  pub command_of : read.call.command ≡ command

-- a row that a later value holds: the start of this run, decided on this revision, of the same snapshot
pub record IsAnnounced (before after : Row) (run revision : ℕ) : Type 0 where
  pub number : after.number ≡ before.number + 1
  pub state : after.state ≡ Offline
  pub next : after.next ≡ Some Online
  pub live : after.live ≡ Some run
  pub base : after.base ≡ revision
  pub snapshot : after.running ≡ before.running

-- the last commit of an instance
abbrev pub last_committed : ℕ → List Item → Option Item
last_committed i [] = None
last_committed i (Committed j n state next ∷ trail) =
    if j == i then Some (Committed j n state next) else last_committed i trail
last_committed i (item ∷ trail) = last_committed i trail

abbrev pub WasSpawned : ℕ → ℕ → List Item → Type 0
WasSpawned i run [] = ⊥
WasSpawned i run (Spawned c j r method revision command ∷ trail) = ((j ≡ i) × (r ≡ run)) ⊎ WasSpawned i run trail
WasSpawned i run (item ∷ trail) = WasSpawned i run trail

-- the start of a run was decided on a value of the history, and a later value announced it. The announced row is the
-- last commit, and the run was not begun before
pub record IsWellDecided (y : History) (trail : List Item) (i run revision : ℕ) (command : List ℕ) : Type 0 where
  pub decided_on : Holdings
  pub announced_by : Holdings
  pub later : ℕ
  pub row : Row
  pub start : Instance
  pub value : value_at y revision ≡ Some decided_on
  pub ready : IsReady decided_on i row command
  pub after : revision < later
  pub later_value : value_at y later ≡ Some announced_by
  pub started : instance announced_by i ≡ Some start
  pub announced : IsAnnounced row start.row run revision
  pub newest : last_committed i trail ≡ Some (Committed i (row.number + 1) Offline (Some Online))
  pub fresh : WasSpawned i run trail → ⊥

abbrev pub StartDecided : History → List Item → Bool → ℕ → ℕ → ℕ → List ℕ → Type 0
StartDecided y trail true i run revision command = IsWellDecided y trail i run revision command
StartDecided y trail false i run revision command = Unit {0}

abbrev pub StartsDecided : History → List Item → Type 0
StartsDecided y [] = Unit {0}
StartsDecided y (Spawned c i run method revision command ∷ trail) =
    StartDecided y trail (is_start method) i run revision command × StartsDecided y trail
StartsDecided y (item ∷ trail) = StartsDecided y trail

-- ---- the whole

-- the trail shows the history, changes states only along the diagram, and commits no number of an instance twice. It
-- shows no row as held that was not committed
pub record IsRecorded (w : World) : Type 0 where
  pub history : CommitsFollowHistory w
  pub diagram : AlongTheDiagram w.trail
  pub once : CommittedOnce w.trail
  pub held : HeldWereCommitted w.trail

-- all that an administrator depends on
pub record IsSafe (w : World) : Type 0 where
  pub recorded : IsRecorded w
  pub one : OneLive w.trail
  pub decided : StartsDecided w.history w.trail

-- Clauses on the knowledge of a launched restarter. They speak of the values that are held and were held, of the
-- messages that were said, and of the runs that were begun.
use Rattle.std.specs.Prelude.{◌≡◌, ◌⊎◌, ◌+◌, ◌≤◌, ℕ, Bool, true, false, List, [], Option, Some, None}
use Rattle.smf_fmri.specs.ByKey.{Rises}
use Rattle.smf_contract.specs.declared.cookie.Method.{Method}
use Rattle.smf_contract.specs.declared.cookie.Method.TheVariants as methods
use Rattle.smf_state.specs.declared.row.Row.{Row}
use Rattle.smf_state.specs.declared.state.State.{State}
use Rattle.smf_state.specs.declared.state.State.TheVariants.{Offline, Online}
use Rattle.smf_state.specs.declared.step.Proposal.{Proposal}
use Rattle.smf_state.specs.declared.step.Step.{Step}
use Rattle.smf_state.specs.declared.step.Step.TheVariants.{Move, Start, Stop, Refresh, End, Note}
use Rattle.smf_state.specs.Rows.{is_stopped, run_of}
use Rattle.smf_state.specs.States.{runs}
use Rattle.smf_method.specs.declared.call.ReadMethod.{ReadMethod}
use Rattle.smf_state.specs.declared.refusal.Why.{Why}
use Rattle.smf_state.specs.declared.refusal.Why.TheVariants as whys
use Rattle.smf_model.specs.declared.held.Instance.{Instance}
use Rattle.smf_model.specs.History.{History}
use Rattle.smf_model.specs.Contents.{Holdings}
use Rattle.smf_model.specs.Look.{instance, launch_of}
use Rattle.smf_wire.specs.declared.message.Message.{Message}
use Rattle.smf_wire.specs.declared.message.Message.TheVariants as messages
use Rattle.smf_restarter.specs.declared.known.After.{After}
use Rattle.smf_restarter.specs.declared.known.After.TheVariants as afters
use Rattle.smf_restarter.specs.declared.known.Drain.{Drain}
use Rattle.smf_restarter.specs.declared.known.Drain.TheVariants as drains
use Rattle.smf_restarter.specs.declared.known.Ending.{Ending}
use Rattle.smf_restarter.specs.declared.known.KnownInstance.{KnownInstance}
use Rattle.smf_restarter.specs.declared.known.Owed.{Owed}
use Rattle.smf_restarter.specs.declared.known.Phase.{Phase}
use Rattle.smf_restarter.specs.declared.known.Phase.TheVariants as phases
use Rattle.smf_restarter.specs.declared.known.Stage.TheVariants.{Joining}
use Rattle.smf_restarter.specs.Ends.{ended_refresh, end_of_stop}
use Rattle.smf_restarter.specs.Knowledge.{Knowledge, by_instance, known_instance}
use Rattle.smf_restarter.specs.Ticks.{is_up}
use Rattle.smf_world.proofs.RowClauses.{IsDead, WasProposed, WasRow, WasSaid}
use Rattle.smf_world.proofs.DecidedClauses.{IsReadyAt}

-- ---- proposals

-- a restarter's own, of its present launch
pub record IsMine (k : Knowledge) (q : Proposal) : Type 0 where
  pub proposer : q.proposer ≡ k.name
  pub launch : q.launch ≡ k.launch

-- a proposal is awaited
pub record IsAwaitedBy (k : Knowledge) (q : Proposal) : Type 0 where
  pub of : KnownInstance
  pub after : After
  pub is_known : known_instance k q.instance ≡ Some of
  pub phase : of.phase ≡ phases.Waiting q after

-- ---- what follows a proposal

-- a method is owed, for the run that comes next
pub record IsOwedNext (method : Method) (run : ℕ) (r : Row) (after : After) : Type 0 where
  pub owed : Owed
  pub is : after ≡ afters.Owes owed
  pub method_is : owed.method ≡ method
  pub run_is : owed.run ≡ run
  pub next : run ≡ r.last + 1

-- a start is owed as it was decided: on a value of the history, of the row that is held
pub record IsStartPlanned (y : History) (n : ℕ) (r : Row) (run snapshot revision : ℕ) (after : After) : Type 0 where
  pub owed : Owed
  pub is : after ≡ afters.Owes owed
  pub method_is : owed.method ≡ methods.Start
  pub run_is : owed.run ≡ run
  pub next : run ≡ r.last + 1
  pub revision_is : owed.revision ≡ revision
  pub read : ReadMethod
  pub decided : Row
  pub ready : IsReadyAt y revision n r.number snapshot read decided
  pub call : owed.call ≡ read.call

-- the plan after a granted step
abbrev pub IsPlanned : History → ℕ → Row → Step → After → Type 0
IsPlanned y n r (Start run snapshot duration ignore revision) after = IsStartPlanned y n r run snapshot revision after
IsPlanned y n r (Stop to cause (Some run)) after = IsOwedNext methods.Stop run r after
IsPlanned y n r (Stop to cause None) after = after ≡ afters.Ending (end_of_stop to cause)
IsPlanned y n r (Refresh (Some run)) after = IsOwedNext methods.Refresh run r after
IsPlanned y n r (Refresh None) after = after ≡ afters.Ending (ended_refresh r)
IsPlanned y n r (Move to) after = after ≡ afters.Idle
IsPlanned y n r (End to keep failed cause) after = after ≡ afters.Idle
IsPlanned y n r (Note bits keep) after = after ≡ afters.Idle

-- ---- methods and ends

pub record IsStarting (r : Row) : Type 0 where
  pub state : r.state ≡ Offline
  pub next : r.next ≡ Some Online

pub record IsStopping (r : Row) : Type 0 where
  pub to : State
  pub state : runs r.state ≡ true
  pub stopped : is_stopped to ≡ true
  pub next : r.next ≡ Some to

pub record IsRefreshing (r : Row) : Type 0 where
  pub state : runs r.state ≡ true
  pub next : r.next ≡ Some r.state

-- a row under which a method runs
abbrev pub IsUnder : Method → Row → Type 0
IsUnder methods.Start r = IsStarting r
IsUnder methods.Stop r = IsStopping r
IsUnder methods.Refresh r = IsRefreshing r

-- the run of a method
abbrev pub run_under : Method → Row → Option ℕ
run_under methods.Start r = r.live
run_under methods.Stop r = r.side
run_under methods.Refresh r = r.side

abbrev pub drains_live : Drain → Bool
drains_live drains.Nothing = false
drains_live drains.Live = true
drains_live drains.Side = false
drains_live drains.Both = true

-- an end that may free the live run waits until this has no members
pub record IsEndOf (e : Ending) (r : Row) : Type 0 where
  pub start : IsStarting r → (e.to ≡ Online) ⊎ (drains_live e.drain ≡ true)
  pub stop : IsStopping r → drains_live e.drain ≡ true

-- ---- one instance

-- a proposal, and what follows it, as they are awaited
pub record IsAwaited (y : History) (h : Holdings) (ms : List Message) (B : ℕ → ℕ → Type 0) (k : Knowledge) (n : ℕ)
    (r : Row) (p : Proposal) (after : After) : Type 0 where
  pub mine : IsMine k p
  pub at : p.instance ≡ n
  pub number : p.number ≡ r.number + 1
  pub serial : p.serial ≤ k.serial
  pub said : WasProposed p ms
  pub greatest : (q : Proposal) → WasProposed q ms → IsMine k q → q.instance ≡ n → q.serial ≤ p.serial
  pub plan : IsPlanned y n r p.step after
  pub unspent : (i : Instance) (run : ℕ) → instance h n ≡ Some i → i.row.owner ≡ k.name → i.row.launch ≡ k.launch
      → i.row.serial ≡ p.serial → run_of p.step ≡ Some run → B n run → ⊥

-- a start is owed as it was decided and then granted
pub record IsStartOwed (y : History) (n : ℕ) (r : Row) (o : Owed) : Type 0 where
  pub number : ℕ
  pub snapshot : ℕ
  pub counted : r.number ≡ number + 1
  pub begun : r.begun ≡ Some snapshot
  pub base : r.base ≡ o.revision
  pub read : ReadMethod
  pub decided : Row
  pub ready : IsReadyAt y o.revision n number snapshot read decided
  pub call : o.call ≡ read.call

abbrev pub IsOwedAs : Method → History → ℕ → Row → Owed → Type 0
IsOwedAs methods.Start y n r o = IsStartOwed y n r o
IsOwedAs methods.Stop y n r o = Unit {0}
IsOwedAs methods.Refresh y n r o = Unit {0}

-- a method is owed: the row is as it is held, granted to this launch, and the run was never begun
pub record IsOwing (y : History) (h : Holdings) (B : ℕ → ℕ → Type 0) (k : Knowledge) (n : ℕ) (r : Row)
    (o : Owed) : Type 0 where
  pub of : Instance
  pub there : instance h n ≡ Some of
  pub owner : of.row.owner ≡ k.name
  pub number : of.row.number ≡ r.number
  pub launch : of.row.launch ≡ k.launch
  pub under : IsUnder o.method r
  pub run : run_under o.method r ≡ Some o.run
  pub fresh : B n o.run → ⊥
  pub begins : IsOwedAs o.method y n r o

abbrev pub IsInPhase : History → Holdings → List Message → (ℕ → ℕ → Type 0) → Knowledge → ℕ → Row → Phase → Type 0
IsInPhase y h ms B k n r phases.Idle = Unit {0}
IsInPhase y h ms B k n r (phases.Waiting p after) = IsAwaited y h ms B k n r p after
IsInPhase y h ms B k n r (phases.Owes o) = IsOwing y h B k n r o
IsInPhase y h ms B k n r (phases.Running m) = IsUnder m.method r
IsInPhase y h ms B k n r (phases.Ending e) = IsEndOf e r

-- an instance as it is known
pub record IsKnown (y : History) (h : Holdings) (ms : List Message) (B : ℕ → ℕ → Type 0) (k : Knowledge) (n : ℕ)
    (i : KnownInstance) : Type 0 where
  pub was : WasRow h n i.row
  pub owner : i.row.owner ≡ k.name
  pub phase : IsInPhase y h ms B k n i.row i.phase

-- ---- answers

-- a start, a stop or a refresh
abbrev pub is_begun : Step → Bool
is_begun (Start run snapshot duration ignore revision) = true
is_begun (Stop to cause run) = true
is_begun (Refresh run) = true
is_begun _ = false

-- the row is what was granted last, to this restarter under this serial
pub record IsStill (h : Holdings) (k : Knowledge) (n serial : ℕ) : Type 0 where
  pub of : Instance
  pub there : instance h n ≡ Some of
  pub owner : of.row.owner ≡ k.name
  pub launch : of.row.launch ≡ k.launch
  pub serial_is : of.row.serial ≡ serial

-- a proposal can never be granted anew if the row is this restarter's and has a number
abbrev pub IsDeadFor : Holdings → Knowledge → Proposal → Type 0
IsDeadFor h k q = (i : Instance) → instance h q.instance ≡ Some i → i.row.owner ≡ k.name → 1 ≤ i.row.number → IsDead h q

abbrev pub IsAckOf : Knowledge → ℕ → ℕ → Row → List Message → Type 0
IsAckOf k serial n r ms = WasSaid (messages.Ack k.name k.launch serial n r) ms

abbrev pub IsNackOf : Knowledge → ℕ → ℕ → Why → Option Row → List Message → Type 0
IsNackOf k serial n why r ms = WasSaid (messages.Nack k.name k.launch serial n why r) ms

-- the answer that is awaited: if it grants a method, the row has not gone on
abbrev pub AcksAreStill : Holdings → List Message → Knowledge → Type 0
AcksAreStill h ms k =
    (serial n : ℕ) (r : Row) (p : Proposal) (after : After) (i : KnownInstance)
    → IsAckOf k serial n r ms
    → known_instance k n ≡ Some i
    → i.phase ≡ phases.Waiting p after
    → p.serial ≡ serial
    → is_begun p.step ≡ true
    → IsStill h k n serial

-- a row that a refusal tells is this restarter's, unless the refusal says that it is another's
pub record IsRefusal (h : Holdings) (k : Knowledge) (p : Proposal) (why : Why) (o : Option Row) : Type 0 where
  pub dead : IsDeadFor h k p
  pub row : (r : Row) → o ≡ Some r → (why ≡ whys.Owner → ⊥) → r.owner ≡ k.name

abbrev pub NacksAreTrue : Holdings → List Message → Knowledge → Type 0
NacksAreTrue h ms k =
    (serial n : ℕ) (why : Why) (o : Option Row) (p : Proposal) (after : After) (i : KnownInstance)
    → IsNackOf k serial n why o ms
    → known_instance k n ≡ Some i
    → i.phase ≡ phases.Waiting p after
    → p.serial ≡ serial
    → IsRefusal h k p why o

-- a proposal that was said can be granted anew only if it is awaited
abbrev pub DeadOrAwaited : Holdings → List Message → Knowledge → Type 0
DeadOrAwaited h ms k = (q : Proposal) → WasProposed q ms → IsMine k q → IsDeadFor h k q ⊎ IsAwaitedBy k q

-- ---- the whole

pub record IsInformed (y : History) (h : Holdings) (ms : List Message) (B : ℕ → ℕ → Type 0)
    (k : Knowledge) : Type 0 where
  pub launch : k.launch ≡ launch_of h k.name
  pub launched : 1 ≤ k.launch
  pub rises : Rises by_instance k.instances
  pub blank : k.stage ≡ Joining → k.instances ≡ []
  pub unserved : is_up k.stage ≡ false → k.serial ≡ 0
  pub idle : is_up k.stage ≡ false → (n : ℕ) (i : KnownInstance) → known_instance k n ≡ Some i → i.phase ≡ phases.Idle
  pub serial : (q : Proposal) → WasProposed q ms → IsMine k q → q.serial ≤ k.serial
  pub each : (n : ℕ) (i : KnownInstance) → known_instance k n ≡ Some i → IsKnown y h ms B k n i
  pub dead : DeadOrAwaited h ms k
  pub acks : AcksAreStill h ms k
  pub nacks : NacksAreTrue h ms k

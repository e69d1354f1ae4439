-- The few kinds of steps that a restarter takes, and the knowledge that each of them stands on.
use Rattle.std.specs.Prelude.{◌≡◌, ◌⊎◌, ◌+◌, ℕ, not, Bool, true, false, List, [], ◌∷◌, map, flat_map, Option, Some, None, Ok}
use Rattle.smf_contract.specs.declared.contract.Status.{Status}
use Rattle.smf_contract.specs.declared.cookie.Method.{Method}
use Rattle.smf_contract.specs.declared.cookie.Method.TheVariants as methods
use Rattle.smf_contract.specs.Cookies.{bits_of_cookie}
use Rattle.smf_state.specs.declared.row.Row.{Row}
use Rattle.smf_state.specs.declared.state.Duration.{Duration}
use Rattle.smf_state.specs.declared.step.Step.{Step}
use Rattle.smf_state.specs.declared.step.Step.TheVariants as steps
use Rattle.smf_method.specs.declared.call.MethodCall.{MethodCall}
use Rattle.smf_state.specs.declared.refusal.Why.{Why}
use Rattle.smf_state.specs.declared.refusal.Why.TheVariants as whys
use Rattle.smf_model.specs.History.{History}
use Rattle.smf_wire.specs.declared.message.Known.{Known}
use Rattle.smf_wire.specs.declared.message.Message.{Message}
use Rattle.smf_wire.specs.declared.message.Message.TheVariants as messages
use Rattle.smf_wire.specs.declared.order.Order.{Order}
use Rattle.smf_wire.specs.declared.order.What.TheVariants as whats
use Rattle.smf_restarter.specs.declared.known.After.{After}
use Rattle.smf_restarter.specs.declared.known.After.TheVariants as afters
use Rattle.smf_restarter.specs.declared.known.Ending.{Ending}
use Rattle.smf_restarter.specs.declared.known.KnownInstance.{KnownInstance}
use Rattle.smf_restarter.specs.declared.known.KnownRun.{KnownRun}
use Rattle.smf_restarter.specs.declared.known.Owed.{Owed}
use Rattle.smf_restarter.specs.declared.known.Phase.TheVariants as phases
use Rattle.smf_restarter.specs.declared.known.RunningMethod.{RunningMethod}
use Rattle.smf_restarter.specs.declared.known.Stage.TheVariants as stages
use Rattle.smf_restarter.specs.declared.reply.Begun.{Begun}
use Rattle.smf_restarter.specs.declared.reply.Call.{Call}
use Rattle.smf_restarter.specs.declared.reply.Call.TheVariants as calls
use Rattle.smf_restarter.specs.declared.reply.KnowledgeChange.{KnowledgeChange}
use Rattle.smf_restarter.specs.declared.reply.Course.{Course}
use Rattle.smf_restarter.specs.declared.reply.Course.TheVariants as courses
use Rattle.smf_restarter.specs.Answers.{with_phase_of_row, run_begun, started_as}
use Rattle.smf_restarter.specs.Changes.{change_to_forget, change_of_instance, change_of_course, no_change}
use Rattle.smf_restarter.specs.Ends.{end_on_success}
use Rattle.smf_restarter.specs.Knowledge.{Knowledge, known_instance}
use Rattle.smf_restarter.specs.Orders.{owed_by, proposal, start_step, waiting_instance}
use Rattle.smf_restarter.specs.Replies.{idle, phase_after, run_after_note}
use Rattle.smf_restarter.specs.Runs.{is_empty, known_run, listed_run}
use Rattle.smf_restarter.specs.Ticks.{begun_of, drain_call, end_step, note_due, terms_of}
use Rattle.smf_safety.proofs.KnowClauses.{IsEndOf, IsPlanned, IsUnder}

-- ---- what is done

-- the change of knowledge, the messages, the methods that are begun, and the call on the contracts
pub record Doing : Type 0 where
  pub change : KnowledgeChange
  pub said : List Message
  pub begun : List Begun
  pub call : Call

abbrev pub doing : KnowledgeChange → List Message → List Begun → Call → Doing
doing change said begun call = record { change = change; said = said; begun = begun; call = call }

-- one instance as it is known
pub record IsAt (k : Knowledge) (i : KnownInstance) : Type 0 where
  pub is_known : known_instance k i.instance ≡ Some i

-- ---- proposals

-- the instance for which an order is taken: known with the row's number and idle, or with the row of the order
pub record IsOrdered (k : Knowledge) (o : Order) (i : KnownInstance) : Type 0 where
  pub at : i.instance ≡ o.instance
  pub number : i.row.number ≡ o.row.number
  pub row : (i.row ≡ o.row) ⊎ (known_instance k o.instance ≡ Some i)
  pub free : (j : KnownInstance) → known_instance k o.instance ≡ Some j → j.phase ≡ phases.Idle

-- a step that an order leads to, but for a start
abbrev pub is_plain : Step → Bool
is_plain (steps.Move to) = true
is_plain (steps.Stop to cause run) = true
is_plain (steps.Refresh run) = true
is_plain _ = false

-- the plan after a step that is no start, whatever was decided
abbrev pub IsPlannedAnyhow : Row → Step → After → Type 0
IsPlannedAnyhow r step after = (y : History) (n : ℕ) → IsPlanned y n r step after

-- the reason for which a step of an instance is proposed, and the plan if it is granted: an order, an end, or a note
pub data Proposes (k : Knowledge) (T : Message → Type 0) (i : KnownInstance) (step : Step)
    (after : After) : Type 0 where
  starts : (o : Order) (call : MethodCall) (duration : Duration) (ignore : ℕ)
      → T (messages.Order o) → IsOrdered k o i → o.what ≡ whats.Start call duration ignore
      → step ≡ start_step o (i.row.last + 1) duration ignore → after ≡ owed_by o methods.Start (i.row.last + 1) call
      → Proposes k T i step after
  orders : (o : Order) → T (messages.Order o) → IsOrdered k o i → is_plain step ≡ true
      → IsPlannedAnyhow i.row step after → Proposes k T i step after
  ends : (e : Ending) → IsAt k i → i.phase ≡ phases.Ending e → drain_call k i e.drain ≡ calls.Nothing
      → step ≡ end_step i.row e (known_run k i.instance i.row.live) → after ≡ afters.Idle
      → Proposes k T i step after
  notes : (bits : ℕ) → IsAt k i → i.phase ≡ phases.Idle → note_due i.row (known_run k i.instance i.row.live) ≡ Some bits
      → step ≡ steps.Note (record { 0 = bits }) (not (is_empty (known_run k i.instance i.row.live)))
      → after ≡ afters.Idle
      → Proposes k T i step after

-- the change that goes with a proposal
abbrev pub proposing_change : Knowledge → KnownInstance → Step → After → KnowledgeChange
proposing_change k i step after =
    record (change_of_instance (waiting_instance i (proposal k i step) after)) { serial = Some (k.serial + 1) }

-- ---- courses

-- an instance may go on so under a row
abbrev pub IsOn : Course → Row → Type 0
IsOn (courses.Running m) r = IsUnder m.method r
IsOn (courses.Ending e) r = IsEndOf e r

-- ---- one step

-- T: what this restarter was told
pub data Does (k : Knowledge) (T : Message → Type 0) (d : Doing) : Type 0 where
  -- nothing but the note of a run, and calls on contracts that are known
  rests : (run : Option KnownRun) (call : Call) → d ≡ doing (record no_change { run = run }) [] [] call → Does k T d
  joins : k.stage ≡ stages.Joining → d ≡ doing no_change (messages.Join k.name k.launch ∷ []) [] calls.Nothing
      → Does k T d
  -- an awaited proposal is said again
  repeats : (i : KnownInstance) (p : _) (after : After) → IsAt k i → i.phase ≡ phases.Waiting p after
      → d ≡ doing no_change (messages.Propose p ∷ []) [] calls.Nothing
      → Does k T d
  proposes : (i : KnownInstance) (step : Step) (after : After) → k.stage ≡ stages.Up → Proposes k T i step after
      → d ≡ doing (proposing_change k i step after) (messages.Propose (proposal k i step) ∷ []) [] calls.Nothing
      → Does k T d
  -- an awaited proposal is granted
  granted : (i : KnownInstance) (p : _) (after : After) (name : List ℕ) (row : Row) → IsAt k i
      → i.phase ≡ phases.Waiting p after
      → T (messages.Ack name p.launch p.serial i.instance row)
      → d ≡ doing (record (change_of_instance (record i { row = row; phase = phase_after after }))
      { run = run_after_note k i p.step }) [] [] calls.Nothing
      → Does k T d
  -- it is refused: the row is taken, or the instance forgotten
  refused : (i : KnownInstance) (p : _) (after : After) (name : List ℕ) (why : Why) (row : Row) → IsAt k i
      → i.phase ≡ phases.Waiting p after
      → T (messages.Nack name p.launch p.serial i.instance why (Some row)) → (why ≡ whys.Owner → ⊥)
      → d ≡ doing (change_of_instance (record i { row = row; phase = phases.Idle })) [] [] calls.Nothing
      → Does k T d
  forgets : (i : KnownInstance) (p : _) (after : After) (name : List ℕ) (why : Why) (row : Option Row) → IsAt k i
      → i.phase ≡ phases.Waiting p after
      → T (messages.Nack name p.launch p.serial i.instance why row) → (why ≡ whys.Owner) ⊎ (row ≡ None)
      → d ≡ doing (change_to_forget i.instance) [] [] calls.Nothing
      → Does k T d
  -- its rows are told
  learns : (name : List ℕ) (rows : List Known) → k.stage ≡ stages.Joining → T (messages.Rows name k.launch rows)
      → d ≡ doing (record no_change { stage = Some stages.Listing; put = map idle rows }) [] [] calls.Nothing
      → Does k T d
  -- the contracts are listed
  lists : (ss : List Status) → k.stage ≡ stages.Listing
      → d ≡ doing (record no_change {
        stage = Some stages.Up;
        put = map with_phase_of_row k.instances;
        listed = flat_map (listed_run k) ss;
      }) [] [] calls.List
      → Does k T d
  -- a method is begun in a contract
  spawns : (i : KnownInstance) (o : Owed) (c cookie : ℕ) → IsAt k i → i.phase ≡ phases.Owes o
      → bits_of_cookie (record { instance = i.instance; run = o.run; method = o.method }) ≡ Ok cookie
      → d ≡ doing (record (change_of_course i.instance (started_as o i.row.duration o.method))
      { run = Some (run_begun i.instance o c) }) [] (begun_of i o ∷ [])
      (calls.Spawn cookie (terms_of o.method i.row))
      → Does k T d
  -- a built-in is begun, and has succeeded
  builds : (i : KnownInstance) (o : Owed) (call : Call) → IsAt k i → i.phase ≡ phases.Owes o
      → d ≡ doing (change_of_course i.instance (courses.Ending (end_on_success i.row o.method))) []
      (begun_of i o ∷ []) call
      → Does k T d
  -- a method that is owed, or that runs, has ended
  turns : (i : KnownInstance) (method : Method) (e : Ending) (run : Option KnownRun) (call : Call) → IsAt k i
      → ((o : Owed) × (i.phase ≡ phases.Owes o) × (o.method ≡ method))
      ⊎ ((m : RunningMethod) × (i.phase ≡ phases.Running m) × (m.method ≡ method))
      → (IsUnder method i.row → IsEndOf e i.row)
      → d ≡ doing (record (change_of_course i.instance (courses.Ending e)) { run = run }) [] [] call
      → Does k T d

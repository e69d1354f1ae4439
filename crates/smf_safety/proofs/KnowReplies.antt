-- A restarter takes one of a few kinds of steps on a message, in a turn, and on a report.
use Rattle.std.proofs.Common.{◌≡◌, inl, inr, ◌==◌, ◌&&◌, nat_lt, ℕ, ◌+◌, Bool, true, false, if◌then◌else◌, List, [], ◌∷◌, map, Option, Some, None, refl, sym, ap, ◌∙◌, subst, eqb-true}
use Rattle.smf_fmri.proofs.SameLists.{found_key}
use Rattle.smf_contract.specs.declared.cookie.Method.{Method}
use Rattle.smf_contract.specs.declared.cookie.Method.TheVariants as methods
use Rattle.smf_method.specs.declared.call.MethodCall.{MethodCall}
use Rattle.smf_method.specs.declared.outcome.MethodOutcome.{MethodOutcome}
use Rattle.smf_method.specs.declared.outcome.MethodOutcome.TheVariants.{Good, Retry, Fatal}
use Rattle.smf_state.specs.declared.row.Row.{Row}
use Rattle.smf_state.specs.declared.state.Cause.{Cause}
use Rattle.smf_state.specs.declared.state.Duration.{Duration}
use Rattle.smf_state.specs.declared.state.State.{State}
use Rattle.smf_state.specs.declared.state.State.TheVariants.{Maintenance}
use Rattle.smf_state.specs.declared.step.Proposal.{Proposal}
use Rattle.smf_state.specs.declared.step.Step.{Step}
use Rattle.smf_state.specs.declared.step.Step.TheVariants as steps
use Rattle.smf_state.specs.Rows.{greatest_run}
use Rattle.smf_state.specs.declared.refusal.Why.{Why}
use Rattle.smf_state.specs.declared.refusal.Why.TheVariants as whys
use Rattle.smf_wire.specs.declared.message.Known.{Known}
use Rattle.smf_wire.specs.declared.message.Message.{Message}
use Rattle.smf_wire.specs.declared.message.Message.TheVariants as messages
use Rattle.smf_wire.specs.declared.order.Order.{Order}
use Rattle.smf_wire.specs.declared.order.What.{What}
use Rattle.smf_wire.specs.declared.order.What.TheVariants as whats
use Rattle.smf_restarter.specs.declared.known.After.{After}
use Rattle.smf_restarter.specs.declared.known.After.TheVariants as afters
use Rattle.smf_restarter.specs.declared.known.KnownInstance.{KnownInstance}
use Rattle.smf_restarter.specs.declared.known.Phase.{Phase}
use Rattle.smf_restarter.specs.declared.known.Phase.TheVariants.{Idle, Waiting, Owes, Running, Ending as Ends}
use Rattle.smf_restarter.specs.declared.known.Stage.{Stage}
use Rattle.smf_restarter.specs.declared.known.Stage.TheVariants.{Joining, Listing, Up}
use Rattle.smf_restarter.specs.declared.reply.Call.TheVariants as calls
use Rattle.smf_restarter.specs.declared.reply.Reply.{Reply}
use Rattle.smf_restarter.specs.Answers.{end_by, is_left_empty}
use Rattle.smf_restarter.specs.Changes.{nothing, reply_with_rows, no_change}
use Rattle.smf_restarter.specs.Ends.{ended_refresh, failed_with, not_followed, start_counted, start_given_up, end_on_success}
use Rattle.smf_restarter.specs.Knowledge.{Knowledge, by_instance, known_instance}
use Rattle.smf_restarter.specs.Orders.{call_with_run, greatest_serial, greatest_word, ordered_what, owed_by, reply_with_proposal, proposing_if, refreshing_by, starting_if, stopping_by}
use Rattle.smf_restarter.specs.Replies.{reply_to_ack, acked_by, anew, awaited_proposal, reply_to_message, heard_order, heard_rows, idle, is_answer, reply_to_nack, nacked_by, ordered_by, ordered_in, ordered_known, refused_by, instance_of_order}
use Rattle.smf_safety.proofs.KnowClauses.{IsEndOf, IsOwedNext, IsUnder}
use Rattle.smf_safety.proofs.KnowSteps.{Does, Doing, IsAt, IsOrdered, Proposes, doing, forgets, granted, learns, orders, proposes, refused, rests, starts}
use Rattle.smf_safety.proofs.KnowDone.{refreshing_ends}
use Rattle.smf_safety.proofs.KnowEvery.{succeeded_ends}

-- a reply to a message
abbrev pub of_reply : Reply → Doing
of_reply r = doing r.change r.messages r.begun r.call

-- ---- ends

pub failed_ends : (r : Row) (m : Method) (fatal : Bool) → IsUnder m r → IsEndOf (failed_with r m fatal) r
failed_ends r methods.Start fatal u = by _
  where
    by : (b : Bool) → IsEndOf (if b then start_given_up else start_counted (r.failed + 1)) r
    by true = record { start = λ s. inr refl; stop = λ s. refl }
    by false = record { start = λ s. inr refl; stop = λ s. refl }
failed_ends r methods.Stop fatal u = record { start = λ s. inr refl; stop = λ s. refl }
failed_ends r methods.Refresh fatal u = refreshing_ends (ended_refresh r) r u

pub unfollowed_ends : (r : Row) (m : Method) → IsUnder m r → IsEndOf (not_followed r m) r
unfollowed_ends r methods.Start u = record { start = λ s. inr refl; stop = λ s. refl }
unfollowed_ends r methods.Stop u = record { start = λ s. inr refl; stop = λ s. refl }
unfollowed_ends r methods.Refresh u = refreshing_ends (ended_refresh r) r u

pub exit_ends : (r : Row) (m : Method) (left : Bool) (o : MethodOutcome) → IsUnder m r → IsEndOf (end_by r m left o) r
exit_ends r m left Good u = by (is_left_empty m r.duration left)
  where
    by : (b : Bool) → IsEndOf (if b then failed_with r m false else end_on_success r m) r
    by true = failed_ends r m false u
    by false = succeeded_ends r m u
exit_ends r m left Retry u = failed_ends r m false u
exit_ends r m left Fatal u = failed_ends r m true u

-- ---- what is known

pub at_known : (k : Knowledge) (n : ℕ) (i : KnownInstance) → known_instance k n ≡ Some i → (i.instance ≡ n) × IsAt k i
at_known k n i e =
    let key : i.instance ≡ n = found_key by_instance n k.instances i e in
    (key, record { is_known = subst (λ (m : ℕ). known_instance k m ≡ Some i) (sym key) e })

pub still : (k : Knowledge) (T : Message → Type 0) → Does k T (of_reply nothing)
still k T = rests None calls.Nothing refl

-- ---- orders

proposing_does : (k : Knowledge) (T : Message → Type 0) (b : Bool) (i : KnownInstance) (step : Step) (after : After)
    (taken : List Known) → k.stage ≡ Up → Proposes k T i step after
    → Does k T (of_reply (proposing_if b k i step after taken))
proposing_does k T true i step after taken up why = proposes i step after up why refl
proposing_does k T false i step after taken up why = still k T

pub does_propose : (k : Knowledge) (T : Message → Type 0) (i : KnownInstance) (step : Step) (after : After)
    (taken : List Known) → k.stage ≡ Up → Proposes k T i step after
    → Does k T (of_reply (reply_with_proposal k i step after taken))
does_propose k T i step after taken up why =
    proposing_does k T (nat_lt k.serial greatest_serial && nat_lt i.row.number greatest_word) i step after taken up why

owed_next : (o : Order) (m : Method) (r : Row) (call : MethodCall)
    → IsOwedNext m (r.last + 1) r (owed_by o m (r.last + 1) call)
owed_next o m r call =
    record {
      owed = record { method = m; run = r.last + 1; revision = o.revision; call = call };
      is = refl;
      method_is = refl;
      run_is = refl;
      next = refl;
    }

start_does : (k : Knowledge) (T : Message → Type 0) (b : Bool) (i : KnownInstance) (o : Order) (taken : List Known)
    (call : MethodCall) (duration : Duration) (ignore : ℕ) → k.stage ≡ Up → T (messages.Order o) → IsOrdered k o i
    → o.what ≡ whats.Start call duration ignore
    → Does k T (of_reply (starting_if b k i o taken call duration ignore))
start_does k T true i o taken call duration ignore up t x what =
    does_propose k T i _ _ taken up (starts o call duration ignore t x what refl refl)
start_does k T false i o taken call duration ignore up t x what =
    does_propose k T i (steps.Move Maintenance) afters.Idle taken up (orders o t x refl (λ y n. refl))

stop_does : (k : Knowledge) (T : Message → Type 0) (i : KnownInstance) (o : Order) (taken : List Known) (to : State)
    (cause : Cause) (call : Option MethodCall) → k.stage ≡ Up → T (messages.Order o) → IsOrdered k o i
    → Does k T (of_reply (stopping_by k i o taken to cause call))
stop_does k T i o taken to cause (Some call) up t x =
    does_propose k T i _ _ taken up (orders o t x refl (λ y n. owed_next o methods.Stop i.row call))
stop_does k T i o taken to cause None up t x = does_propose k T i _ _ taken up (orders o t x refl (λ y n. refl))

refresh_does : (k : Knowledge) (T : Message → Type 0) (i : KnownInstance) (o : Order) (taken : List Known)
    (call : Option MethodCall) → k.stage ≡ Up → T (messages.Order o) → IsOrdered k o i
    → Does k T (of_reply (refreshing_by k i o taken call))
refresh_does k T i o taken (Some call) up t x =
    does_propose k T i _ _ taken up (orders o t x refl (λ y n. owed_next o methods.Refresh i.row call))
refresh_does k T i o taken None up t x = does_propose k T i _ _ taken up (orders o t x refl (λ y n. refl))

what_does : (k : Knowledge) (T : Message → Type 0) (i : KnownInstance) (o : Order) (taken : List Known) (w : What)
    → k.stage ≡ Up → T (messages.Order o) → IsOrdered k o i → o.what ≡ w
    → Does k T (of_reply (ordered_what k i o taken w))
what_does k T i o taken (whats.To state) up t x e = does_propose k T i _ _ taken up (orders o t x refl (λ y n. refl))
what_does k T i o taken (whats.Start call duration ignore) up t x e =
    start_does k T (nat_lt i.row.last greatest_run) i o taken call duration ignore up t x e
what_does k T i o taken (whats.Stop to cause call) up t x e =
    stop_does k T i o taken to cause (call_with_run i.row call) up t x
what_does k T i o taken (whats.Refresh call) up t x e = refresh_does k T i o taken (call_with_run i.row call) up t x

one_known : (i j : KnownInstance) → Some i ≡ Some j → i ≡ j
one_known i j e = cc

idle_free : (k : Knowledge) (o : Order) (i : KnownInstance) → known_instance k o.instance ≡ Some i → i.phase ≡ Idle
    → (j : KnownInstance) → known_instance k o.instance ≡ Some j → j.phase ≡ Idle
idle_free k o i e f j g = ap (λ (z : KnownInstance). z.phase) (one_known j i (sym g ∙ e)) ∙ f

idle_does : (k : Knowledge) (T : Message → Type 0) (b greater : Bool) (i : KnownInstance) (o : Order) → k.stage ≡ Up
    → T (messages.Order o) → known_instance k o.instance ≡ Some i → i.phase ≡ Idle → (o.row.number == i.row.number) ≡ b
    → Does k T (of_reply (ordered_by b greater k i o))
idle_does k T true greater i o up t e f same =
    what_does k T i o [] o.what up t
    (record {
      at = (at_known k o.instance i e).0;
      number = sym (eqb-true o.row.number i.row.number same);
      row = inr e;
      free = idle_free k o i e f;
    }) refl
idle_does k T false true i o up t e f same =
    what_does k T (anew i o) o (instance_of_order o ∷ []) o.what up t
    (record { at = (at_known k o.instance i e).0; number = refl; row = inl refl; free = idle_free k o i e f }) refl
idle_does k T false false i o up t e f same = still k T

phase_does : (k : Knowledge) (T : Message → Type 0) (i : KnownInstance) (o : Order) (p : Phase) → k.stage ≡ Up
    → T (messages.Order o) → known_instance k o.instance ≡ Some i → i.phase ≡ p
    → Does k T (of_reply (ordered_in k i o p))
phase_does k T i o Idle up t e f =
    idle_does k T (o.row.number == i.row.number) (nat_lt i.row.number o.row.number) i o up t e f refl
phase_does k T i o (Waiting p after) up t e f = still k T
phase_does k T i o (Owes owed) up t e f = still k T
phase_does k T i o (Running owed) up t e f = still k T
phase_does k T i o (Ends x) up t e f = still k T

known_does : (k : Knowledge) (T : Message → Type 0) (o : Order) (x : Option KnownInstance) → k.stage ≡ Up
    → T (messages.Order o) → known_instance k o.instance ≡ x → Does k T (of_reply (ordered_known k o x))
known_does k T o None up t e =
    what_does k T (idle (instance_of_order o)) o (instance_of_order o ∷ []) o.what up t
    (record {
      at = refl;
      number = refl;
      row = inl refl;
      free = λ j f. absurd (gone j (known_instance k o.instance) e f);
    }) refl
  where
    gone : (j : KnownInstance) (a : Option KnownInstance) → a ≡ None → a ≡ Some j → ⊥
    gone j a p q = cc
known_does k T o (Some i) up t e = phase_does k T i o i.phase up t e refl

order_does : (k : Knowledge) (T : Message → Type 0) (o : Order) (s : Stage) → k.stage ≡ s → T (messages.Order o)
    → Does k T (of_reply (heard_order k o s))
order_does k T o Up e t = known_does k T o (known_instance k o.instance) e t refl
order_does k T o Joining e t = still k T
order_does k T o Listing e t = still k T

-- ---- rows

rows_does : (k : Knowledge) (T : Message → Type 0) (name : List ℕ) (launch : ℕ) (rows : List Known) (s : Stage)
    → k.stage ≡ s → T (messages.Rows name launch rows) → Does k T (of_reply (heard_rows k launch rows s))
rows_does k T name launch rows Up e t = still k T
rows_does k T name launch rows Listing e t = still k T
rows_does k T name launch rows Joining e t = by (launch == k.launch) refl
  where
    by : (b : Bool) → (launch == k.launch) ≡ b
        → Does k T (of_reply
        (if b then reply_with_rows rows (record no_change { stage = Some Listing; put = map idle rows }) else nothing))
    by true f = learns name rows e (subst (λ (x : ℕ). T (messages.Rows name x rows)) (eqb-true launch k.launch f) t)
        refl
    by false f = still k T

-- ---- answers

both_true : (a b : Bool) → (a && b) ≡ true → (a ≡ true) × (b ≡ true)
both_true true true e = (refl, refl)
both_true true false e = absurd cc
both_true false b e = absurd cc

-- the launch and the serial of an answer to what is awaited
answer_is : (launch serial : ℕ) (p : Proposal) → is_answer launch serial p ≡ true
    → (p.launch ≡ launch) × (p.serial ≡ serial)
answer_is launch serial p e =
    let t = both_true (p.launch == launch) (p.serial == serial) e in
    (eqb-true p.launch launch t.0, eqb-true p.serial serial t.1)

acked_does : (k : Knowledge) (T : Message → Type 0) (name : List ℕ) (launch serial n : ℕ) (row : Row)
    (i : KnownInstance) (x : Phase) → known_instance k n ≡ Some i → i.phase ≡ x
    → T (messages.Ack name launch serial n row)
    → Does k T (of_reply (acked_by k row i (awaited_proposal launch serial x)))
acked_does k T name launch serial n row i Idle e f t = still k T
acked_does k T name launch serial n row i (Owes o) e f t = still k T
acked_does k T name launch serial n row i (Running m) e f t = still k T
acked_does k T name launch serial n row i (Ends z) e f t = still k T
acked_does k T name launch serial n row i (Waiting p after) e f t = by (is_answer launch serial p) refl
  where
    by : (b : Bool) → is_answer launch serial p ≡ b
        → Does k T (of_reply (acked_by k row i (if b then Some (record { proposal = p; after = after }) else None)))
    by true g =
        let a = answer_is launch serial p g in
        let at = at_known k n i e in
        granted i p after name row at.1 f
        (subst (λ (m : ℕ). T (messages.Ack name p.launch p.serial m row)) (sym at.0)
        (subst (λ (m : ℕ). T (messages.Ack name p.launch m n row)) (sym a.1)
        (subst (λ (m : ℕ). T (messages.Ack name m serial n row)) (sym a.0) t))) refl
    by false g = still k T

ack_does : (k : Knowledge) (T : Message → Type 0) (name : List ℕ) (launch serial n : ℕ) (row : Row)
    (x : Option KnownInstance) → known_instance k n ≡ x → T (messages.Ack name launch serial n row)
    → Does k T (of_reply (reply_to_ack k launch serial row x))
ack_does k T name launch serial n row None e t = still k T
ack_does k T name launch serial n row (Some i) e t = acked_does k T name launch serial n row i i.phase e refl t

refused_does : (k : Knowledge) (T : Message → Type 0) (name : List ℕ) (i : KnownInstance) (p : Proposal)
    (after : After) (why : Why) (row : Option Row) → IsAt k i → i.phase ≡ Waiting p after
    → T (messages.Nack name p.launch p.serial i.instance why row) → Does k T (of_reply (refused_by i why row))
refused_does k T name i p after whys.Owner row at f t = forgets i p after name whys.Owner row at f t (inl refl) refl
refused_does k T name i p after whys.NoSuch None at f t = forgets i p after name whys.NoSuch None at f t (inr refl) refl
refused_does k T name i p after whys.Launch None at f t = forgets i p after name whys.Launch None at f t (inr refl) refl
refused_does k T name i p after whys.Number None at f t = forgets i p after name whys.Number None at f t (inr refl) refl
refused_does k T name i p after whys.Snapshot None at f t =
    forgets i p after name whys.Snapshot None at f t (inr refl) refl
refused_does k T name i p after (whys.Step fault) None at f t =
    forgets i p after name (whys.Step fault) None at f t (inr refl) refl
refused_does k T name i p after whys.NoSuch (Some row) at f t =
    refused i p after name whys.NoSuch row at f t (λ e. absurd cc) refl
refused_does k T name i p after whys.Launch (Some row) at f t =
    refused i p after name whys.Launch row at f t (λ e. absurd cc) refl
refused_does k T name i p after whys.Number (Some row) at f t =
    refused i p after name whys.Number row at f t (λ e. absurd cc) refl
refused_does k T name i p after whys.Snapshot (Some row) at f t =
    refused i p after name whys.Snapshot row at f t (λ e. absurd cc) refl
refused_does k T name i p after (whys.Step fault) (Some row) at f t =
    refused i p after name (whys.Step fault) row at f t (λ e. absurd cc) refl

nacked_does : (k : Knowledge) (T : Message → Type 0) (name : List ℕ) (launch serial n : ℕ) (why : Why)
    (row : Option Row) (i : KnownInstance) (x : Phase) → known_instance k n ≡ Some i → i.phase ≡ x
    → T (messages.Nack name launch serial n why row)
    → Does k T (of_reply (nacked_by why row i (awaited_proposal launch serial x)))
nacked_does k T name launch serial n why row i Idle e f t = still k T
nacked_does k T name launch serial n why row i (Owes o) e f t = still k T
nacked_does k T name launch serial n why row i (Running m) e f t = still k T
nacked_does k T name launch serial n why row i (Ends z) e f t = still k T
nacked_does k T name launch serial n why row i (Waiting p after) e f t = by (is_answer launch serial p) refl
  where
    by : (b : Bool) → is_answer launch serial p ≡ b
        → Does k T (of_reply (nacked_by why row i (if b then Some (record { proposal = p; after = after }) else None)))
    by true g =
        let a = answer_is launch serial p g in
        let at = at_known k n i e in
        refused_does k T name i p after why row at.1 f
        (subst (λ (m : ℕ). T (messages.Nack name p.launch p.serial m why row)) (sym at.0)
        (subst (λ (m : ℕ). T (messages.Nack name p.launch m n why row)) (sym a.1)
        (subst (λ (m : ℕ). T (messages.Nack name m serial n why row)) (sym a.0) t)))
    by false g = still k T

nack_does : (k : Knowledge) (T : Message → Type 0) (name : List ℕ) (launch serial n : ℕ) (why : Why)
    (row : Option Row) (x : Option KnownInstance) → known_instance k n ≡ x
    → T (messages.Nack name launch serial n why row) → Does k T (of_reply (reply_to_nack launch serial why row x))
nack_does k T name launch serial n why row None e t = still k T
nack_does k T name launch serial n why row (Some i) e t =
    nacked_does k T name launch serial n why row i i.phase e refl t

pub heard_does : (k : Knowledge) (T : Message → Type 0) (m : Message) → T m → Does k T (of_reply (reply_to_message k m))
unfolding reply_to_message
heard_does k T (messages.Rows name launch rows) t = rows_does k T name launch rows k.stage refl t
heard_does k T (messages.Order o) t = order_does k T o k.stage refl t
heard_does k T (messages.Ack name launch serial n row) t =
    ack_does k T name launch serial n row (known_instance k n) refl t
heard_does k T (messages.Nack name launch serial n why row) t =
    nack_does k T name launch serial n why row (known_instance k n) refl t
heard_does k T (messages.Join name launch) t = still k T
heard_does k T (messages.Propose p) t = still k T
heard_does k T messages.AskView t = still k T
heard_does k T (messages.AskChange since) t = still k T
heard_does k T (messages.View v) t = still k T
heard_does k T (messages.Changes news) t = still k T

-- Each step of a restarter keeps what holds of what it knows.
use Rattle.std.proofs.Common.{◌≡◌, ◌⊎◌, inl, inr, ℕ, ◌+◌, ◌≤◌, ◌<◌, Bool, true, false, cond, List, Option, Some, None, option_map, refl, sym, ap, ◌∙◌, subst, arith}
use Rattle.std.specs.Prelude.{unwrap_or}
use Rattle.std.specs.Ordering.{is_eq, nat_cmp}
use Rattle.smf_fmri.specs.ByKey.{Rises, with_answer}
use Rattle.smf_fmri.proofs.Lookups.{lookup_amend, lookup_put, lookup_without}
use Rattle.smf_fmri.proofs.KeyOrder.{rises_put}
use Rattle.smf_contract.specs.declared.cookie.Method.{Method}
use Rattle.smf_contract.specs.declared.cookie.Method.TheVariants as methods
use Rattle.smf_state.specs.declared.row.Row.{Row}
use Rattle.smf_state.specs.declared.state.State.{State}
use Rattle.smf_state.specs.declared.state.State.TheVariants.{Offline}
use Rattle.smf_state.specs.States.{runs}
use Rattle.smf_state.specs.declared.step.Proposal.{Proposal}
use Rattle.smf_state.specs.declared.step.Step.{Step}
use Rattle.smf_state.specs.declared.step.Step.TheVariants.{Move, Start, Stop, Refresh, End, Note}
use Rattle.smf_state.specs.Rows.{is_stopped, run_of}
use Rattle.smf_method.specs.declared.call.MethodCall.{MethodCall}
use Rattle.smf_state.specs.declared.state.Duration.{Duration}
use Rattle.smf_model.specs.declared.held.Instance.{Instance}
use Rattle.smf_model.specs.History.{History}
use Rattle.smf_model.specs.Contents.{Holdings}
use Rattle.smf_model.specs.Look.{instance}
use Rattle.smf_wire.specs.declared.message.Message.{Message}
use Rattle.smf_wire.specs.declared.message.Message.TheVariants as messages
use Rattle.smf_wire.specs.declared.order.Order.{Order}
use Rattle.smf_wire.specs.declared.order.What.TheVariants as whats
use Rattle.smf_restarter.specs.declared.known.After.{After}
use Rattle.smf_restarter.specs.declared.known.After.TheVariants as afters
use Rattle.smf_restarter.specs.declared.known.Ending.{Ending}
use Rattle.smf_restarter.specs.declared.known.KnownInstance.{KnownInstance}
use Rattle.smf_restarter.specs.declared.known.KnownRun.{KnownRun}
use Rattle.smf_restarter.specs.declared.known.Owed.{Owed}
use Rattle.smf_restarter.specs.declared.known.Phase.TheVariants as phases
use Rattle.smf_restarter.specs.declared.known.Stage.{Stage}
use Rattle.smf_restarter.specs.declared.reply.KnowledgeChange.{KnowledgeChange}
use Rattle.smf_restarter.specs.declared.reply.Course.{Course}
use Rattle.smf_restarter.specs.Changes.{knowledge_after, change_to_forget, on_course, change_of_instance, change_of_course}
use Rattle.smf_restarter.specs.Ends.{ended_refresh}
use Rattle.smf_restarter.specs.Knowledge.{Knowledge, by_instance, known_instance}
use Rattle.smf_restarter.specs.Orders.{proposal, waiting_instance}
use Rattle.smf_restarter.specs.Replies.{phase_after}
use Rattle.smf_restarter.specs.Ticks.{is_up}
use Rattle.smf_world.proofs.RowClauses.{AreExplained, IsLeft, WasGranted, WasProposed, WasRow, WasSaid}
use Rattle.smf_safety.proofs.SaidClauses.{AreSaid, IsAck, IsSaid}
use Rattle.smf_world.proofs.DecidedClauses.{IsReadyAt}
use Rattle.smf_safety.proofs.KnowClauses.{IsAckOf, IsAwaited, IsDeadFor, IsEndOf, IsInPhase, IsInformed, IsKnown, IsMine, IsOwedAs, IsOwing, IsPlanned, IsRefreshing, IsStill, IsUnder, is_begun, run_under}
use Rattle.smf_safety.proofs.KnowSteps.{IsAt, proposing_change}
use Rattle.smf_safety.proofs.KnowKept.{IsSame, informed_changed, known_more, said_is}

-- ---- what is known behind a change

-- instances alone are changed by this
abbrev pub with_run : KnowledgeChange → Option KnownRun → KnowledgeChange
with_run c run = record c { run = run }

pub put_at : (k : Knowledge) (i : KnownInstance) (run : Option KnownRun) (j : ℕ)
    → known_instance (knowledge_after k (with_run (change_of_instance i) run)) j
    ≡ with_answer by_instance (known_instance k) i.instance (Some i) j
unfolding knowledge_after
put_at k i run j = lookup_put by_instance i k.instances j

pub proposed_at : (k : Knowledge) (i : KnownInstance) (step : Step) (after : After) (j : ℕ)
    → known_instance (knowledge_after k (proposing_change k i step after)) j
    ≡ with_answer by_instance (known_instance k) i.instance (Some (waiting_instance i (proposal k i step) after)) j
unfolding knowledge_after
proposed_at k i step after j = lookup_put by_instance (waiting_instance i (proposal k i step) after) k.instances j

pub forgotten_at : (k : Knowledge) (n j : ℕ)
    → known_instance (knowledge_after k (change_to_forget n)) j ≡ with_answer by_instance (known_instance k) n None j
unfolding knowledge_after
forgotten_at k n j = lookup_without by_instance n k.instances j

if_here : (b : Bool) (x y z : Option KnownInstance) → (b ≡ true → x ≡ y) → cond b x z ≡ cond b y z
if_here true x y z e = e refl
if_here false x y z e = refl

pub turned_at : (k : Knowledge) (i : KnownInstance) (course : Course) (run : Option KnownRun) (j : ℕ)
    → known_instance k i.instance ≡ Some i
    → known_instance (knowledge_after k (with_run (change_of_course i.instance course) run)) j
    ≡ with_answer by_instance (known_instance k) i.instance (Some (on_course course i)) j
unfolding knowledge_after
turned_at k i course run j e =
    lookup_amend by_instance i.instance (on_course course) k.instances j (λ x. refl)
    ∙ if_here (is_eq (nat_cmp i.instance j)) (option_map (on_course course) (known_instance k j))
    (Some (on_course course i)) (known_instance k j)
    (λ here. let same : i.instance ≡ j = key_is i.instance j here in
    ap (option_map (on_course course)) (subst (λ (x : ℕ). known_instance k x ≡ Some i) same e))
  where
    key_is : (a b : ℕ) → is_eq (nat_cmp a b) ≡ true → a ≡ b
    key_is a b e = grind arith

-- ---- what is granted

-- the row as it is held now, granted to this restarter under the number of the row that it is told
pub record IsGrantedTo (h : Holdings) (name : List ℕ) (of_launch : ℕ) (n : ℕ) (r : Row) : Type 0 where
  pub of : Instance
  pub there : instance h n ≡ Some of
  pub owner : of.row.owner ≡ name
  pub launch : of.row.launch ≡ of_launch
  pub number : of.row.number ≡ r.number

owing_as : (y : History) (h : Holdings) (C : ℕ → ℕ → Type 0) (k : Knowledge) (n run : ℕ) (r : Row) (method : Method)
    (o : Owed)
    → o.method ≡ method → o.run ≡ run → IsGrantedTo h k.name k.launch n r → IsUnder method r
    → run_under method r ≡ Some run → (C n run → ⊥) → IsOwedAs method y n r o → IsOwing y h C k n r o
owing_as y h C k n run r method o is at g under named fresh begins =
    record {
      of = g.of;
      there = g.there;
      owner = g.owner;
      number = g.number;
      launch = g.launch;
      under = subst (λ (m : Method). IsUnder m r) (sym is) under;
      run = subst (λ (m : Method). run_under m r ≡ Some o.run) (sym is) (named ∙ ap (λ (x : ℕ). Some x) (sym at));
      fresh = λ b. fresh (subst (λ (x : ℕ). C n x) at b);
      begins = subst (λ (m : Method). IsOwedAs m y n r o) (sym is) begins;
    }

abbrev InPhase : History → Holdings → List Message → (ℕ → ℕ → Type 0) → Knowledge → ℕ → Row → After → Type 0
InPhase y h us C k n r after = IsInPhase y h us C k n r (phase_after after)

pub no_start : (s : State) → runs s ≡ true → s ≡ Offline → ⊥
no_start s e f = let t : runs Offline ≡ true = subst (λ (x : State). runs x ≡ true) f e in cc

pub some_state : (s t : State) → Some s ≡ Some t → s ≡ t
some_state s t e = cc

pub refreshing_ends : (e : Ending) (r : Row) → IsRefreshing r → IsEndOf e r
refreshing_ends e r f =
    record {
      start = λ s. absurd (no_start r.state f.state s.state);
      stop = λ s. absurd (still_runs r.state s.to f.state s.stopped (some_state r.state s.to (sym f.next ∙ s.next)));
    }
  where
    still_runs : (s t : State) → runs s ≡ true → is_stopped t ≡ true → s ≡ t → ⊥
    still_runs s t a b e = grind arith

granted_phase : (y : History) (h : Holdings) (us : List Message) (C : ℕ → ℕ → Type 0) (k : Knowledge) (n : ℕ)
    (before r : Row) (s : Step) (after : After)
    → IsPlanned y n before s after → IsLeft s r → r.number ≡ before.number + 1
    → (is_begun s ≡ true → IsGrantedTo h k.name k.launch n r)
    → ((run : ℕ) → is_begun s ≡ true → run_of s ≡ Some run → C n run → ⊥)
    → InPhase y h us C k n r after
granted_phase y h us C k n before r (Move to) after plan left number still fresh =
    subst (InPhase y h us C k n r) (sym plan) tt
granted_phase y h us C k n before r (End to keep failed cause) after plan left number still fresh =
    subst (InPhase y h us C k n r) (sym plan) tt
granted_phase y h us C k n before r (Note bits keep) after plan left number still fresh =
    subst (InPhase y h us C k n r) (sym plan) tt
granted_phase y h us C k n before r (Start run snapshot duration ignore revision) after plan left number still fresh =
    let same : Start run snapshot duration ignore revision ≡ Start left.run left.snapshot r.duration r.ignore r.base =
    left.step in
    let runs_same : run ≡ left.run = cc in
    let snapshots : snapshot ≡ left.snapshot = cc in
    let revisions : revision ≡ r.base = cc in
    subst (InPhase y h us C k n r) (sym plan.is)
    (owing_as y h C k n run r methods.Start plan.owed plan.method_is plan.run_is (still refl)
    (record { state = left.state; next = left.next }) (left.live ∙ ap (λ (x : ℕ). Some x) (sym runs_same))
    (fresh run refl refl)
    (record {
      number = before.number;
      snapshot = snapshot;
      counted = number;
      begun = left.begun ∙ ap (λ (x : ℕ). Some x) (sym snapshots);
      base = sym revisions ∙ sym plan.revision_is;
      read = plan.read;
      decided = plan.decided;
      ready = subst (λ (x : ℕ). IsReadyAt y x n before.number snapshot plan.read plan.decided)
          (sym plan.revision_is) plan.ready;
      call = plan.call;
    }))
granted_phase y h us C k n before r (Stop to cause (Some run)) after plan left number still fresh =
    let same : Stop to cause (Some run) ≡ Stop left.to left.cause r.side = left.step in
    let sides : Some run ≡ r.side = cc in
    subst (InPhase y h us C k n r) (sym plan.is)
    (owing_as y h C k n run r methods.Stop plan.owed plan.method_is plan.run_is (still refl)
    (record { to = left.to; state = left.state; stopped = left.stopped; next = left.next }) (sym sides)
    (fresh run refl refl) tt)
granted_phase y h us C k n before r (Stop to cause None) after plan left number still fresh =
    subst (InPhase y h us C k n r) (sym plan) (record { start = λ s. inr refl; stop = λ s. refl })
granted_phase y h us C k n before r (Refresh (Some run)) after plan left number still fresh =
    subst (InPhase y h us C k n r) (sym plan.is)
    (owing_as y h C k n run r methods.Refresh plan.owed plan.method_is plan.run_is (still refl)
    (record { state = left.state; next = left.next }) left.side (fresh run refl refl) tt)
granted_phase y h us C k n before r (Refresh None) after plan left number still fresh =
    subst (InPhase y h us C k n r) (sym plan)
    (refreshing_ends (ended_refresh before) r (record { state = left.state; next = left.next }))

-- ---- what a restarter is told

-- an order: of a row of its own, and a start as it was decided, of what is not still to come
pub record IsGiven (y : History) (h : Holdings) (k : Knowledge) (o : Order) : Type 0 where
  pub owner : o.row.owner ≡ k.name
  pub ready : (call : MethodCall) (duration : Duration) (ignore : ℕ) → o.what ≡ whats.Start call duration ignore
      → IsReadyAt y o.revision o.instance o.row.number (unwrap_or o.row.running 0)
      (record { call = call; duration = duration; ignore = ignore }) o.row
  pub past : (call : MethodCall) (duration : Duration) (ignore : ℕ) → o.what ≡ whats.Start call duration ignore
      → (unwrap_or o.row.running 0 < h.next_snapshot) × (o.revision ≤ h.revision)

abbrev pub IsTo : History → Holdings → Knowledge → Message → Type 0
IsTo y h k (messages.Rows name launch rows) = name ≡ k.name
IsTo y h k (messages.Ack name launch serial n row) = name ≡ k.name
IsTo y h k (messages.Nack name launch serial n why row) = name ≡ k.name
IsTo y h k (messages.Order o) = IsGiven y h k o
IsTo y h k _ = Unit {0}

-- a message was said, and is for this restarter
pub record WasTold (y : History) (h : Holdings) (ms : List Message) (k : Knowledge) (m : Message) : Type 0 where
  pub said : WasSaid m ms
  pub to : IsTo y h k m

-- ---- changes of one instance that says nothing

pub same_but : (k : Knowledge) (c : KnowledgeChange) → c.serial ≡ None → IsSame k (knowledge_after k c)
unfolding knowledge_after
same_but k c e =
    record {
      name = refl;
      launch = refl;
      serial = subst (λ (s : Option _). k.serial ≤ unwrap_or s k.serial) (sym e) (omega arith);
    }

pub stage_but : (k : Knowledge) (c : KnowledgeChange) → c.stage ≡ None → (knowledge_after k c).stage ≡ k.stage
unfolding knowledge_after
stage_but k c e = ap (λ (s : Option Stage). unwrap_or s k.stage) e

pub record IsQuietChange (y : History) (h : Holdings) (ms : List Message) (B C : ℕ → ℕ → Type 0) (k : Knowledge)
    (c : KnowledgeChange) (n : ℕ) (o : Option KnownInstance) : Type 0 where
  pub serial : c.serial ≡ None
  pub stage : c.stage ≡ None
  pub up : is_up k.stage ≡ true
  pub rises : Rises by_instance (knowledge_after k c).instances
  pub at : (j : ℕ) → known_instance (knowledge_after k c) j ≡ with_answer by_instance (known_instance k) n o j
  pub begun : (j run : ℕ) → C j run → B j run ⊎ (j ≡ n)
  pub is_known : (i : KnownInstance) → o ≡ Some i → IsKnown y h ms C (knowledge_after k c) n i
  pub never : (i : KnownInstance) (p : Proposal) (after : After) → o ≡ Some i → i.phase ≡ phases.Waiting p after → ⊥
  pub dropped : (i : KnownInstance) (p : Proposal) (after : After) → known_instance k n ≡ Some i
      → i.phase ≡ phases.Waiting p after → IsDeadFor h k p

pub quiet_changed : (y : History) (h : Holdings) (ms : List Message) (B C : ℕ → ℕ → Type 0) (k : Knowledge)
    (c : KnowledgeChange) (n : ℕ) (o : Option KnownInstance)
    → AreSaid h ms → IsQuietChange y h ms B C k c n o → IsInformed y h ms B k
    → IsInformed y h ms C (knowledge_after k c)
quiet_changed y h ms B C k c n o said q f =
    informed_changed y h ms ms B C k (knowledge_after k c) n o said
    (record {
      same = same_but k c q.serial;
      up = q.up;
      stage = stage_but k c q.stage;
      rises = q.rises;
      at = q.at;
      said = λ p w. w;
      mine = λ p w is. inl w;
      acks = λ serial j r w. w;
      nacks = λ serial j why r w. w;
      begun = q.begun;
      is_known = q.is_known;
      fresh = λ i p after e ph. absurd (q.never i p after e ph);
      dropped = q.dropped;
    }) f

-- a restarter acts for an instance only once it is up
pub up_by : (y : History) (h : Holdings) (ms : List Message) (B : ℕ → ℕ → Type 0) (k : Knowledge) (i : KnownInstance)
    → IsInformed y h ms B k → IsAt k i → (i.phase ≡ phases.Idle → ⊥) → is_up k.stage ≡ true
up_by y h ms B k i f at busy = by (is_up k.stage) refl
  where
    by : (b : Bool) → is_up k.stage ≡ b → b ≡ true
    by true e = refl
    by false e = absurd (busy (f.idle e i.instance i at.is_known))

pub waits_not_idle : (i : KnownInstance) (p : Proposal) (after : After) → i.phase ≡ phases.Waiting p after
    → i.phase ≡ phases.Idle → ⊥
waits_not_idle i p after e f = let g : phases.Waiting p after ≡ phases.Idle = sym e ∙ f in cc

pub some_one : (i j : KnownInstance) → Some i ≡ Some j → i ≡ j
some_one i j e = cc

waits_one : (p q : Proposal) (a b : After) → phases.Waiting p a ≡ phases.Waiting q b → p ≡ q
waits_one p q a b e = cc

pub one_awaited : (k : Knowledge) (i j : KnownInstance) (p q : Proposal) (a b : After) → IsAt k i
    → i.phase ≡ phases.Waiting p a → known_instance k i.instance ≡ Some j → j.phase ≡ phases.Waiting q b → p ≡ q
one_awaited k i j p q a b at e there f =
    let same : i ≡ j = some_one i j (sym at.is_known ∙ there) in
    waits_one p q a b (sym e ∙ (ap (λ (x : KnownInstance). x.phase) same ∙ f))

after_no_wait : (after b : After) (p : Proposal) → phase_after after ≡ phases.Waiting p b → ⊥
after_no_wait afters.Idle b p e = absurd cc
after_no_wait (afters.Owes o) b p e = absurd cc
after_no_wait (afters.Ending x) b p e = absurd cc

pub awaited_at : (y : History) (h : Holdings) (ms : List Message) (B : ℕ → ℕ → Type 0) (k : Knowledge)
    (i : KnownInstance) (p : Proposal) (after : After) → IsInformed y h ms B k → IsAt k i
    → i.phase ≡ phases.Waiting p after → IsAwaited y h ms B k i.instance i.row p after
awaited_at y h ms B k i p after f at e =
    subst (IsInPhase y h ms B k i.instance i.row) e (f.each i.instance i at.is_known).phase

pub put_rises : (k : Knowledge) (i : KnownInstance) (run : Option KnownRun) → Rises by_instance k.instances
    → Rises by_instance (knowledge_after k (with_run (change_of_instance i) run)).instances
unfolding knowledge_after
put_rises k i run r = rises_put by_instance i k.instances r

-- the knowledge of an instance after a change that leaves the serial
pub phase_known : (y : History) (h : Holdings) (ms : List Message) (B : ℕ → ℕ → Type 0) (k : Knowledge)
    (c : KnowledgeChange) (n : ℕ) (i : KnownInstance) → c.serial ≡ None → IsKnown y h ms B k n i
    → IsKnown y h ms B (knowledge_after k c) n i
phase_known y h ms B k c n i e a =
    known_more y h ms ms B B k (knowledge_after k c) n i
    (record { same = same_but k c e; said = λ q w. w; mine = λ q w is at. w; begun = λ run of there owner b. b }) a

-- ---- what was awaited is granted

-- an ack of the awaited proposal tells a row of the instance, as the proposal's step left it
pub record IsTheAck (h : Holdings) (k : Knowledge) (n : ℕ) (p : Proposal) (row : Row) : Type 0 where
  pub was : WasRow h n row
  pub owner : row.owner ≡ k.name
  pub number : p.number ≡ row.number
  pub left : IsLeft p.step row

the_ack : (y : History) (h : Holdings) (ms : List Message) (B : ℕ → ℕ → Type 0) (k : Knowledge) (n : ℕ) (r : Row)
    (p : Proposal) (after : After) (name : List ℕ) (row : Row)
    → AreSaid h ms → IsAwaited y h ms B k n r p after → WasSaid (messages.Ack name p.launch p.serial n row) ms
    → name ≡ k.name → IsTheAck h k n p row
the_ack y h ms B k n r p after name row said a w to =
    let b : IsAck h ms name p.launch p.serial n row =
    said_is (IsSaid h ms) (messages.Ack name p.launch p.serial n row) ms said.each w in
    let is : b.to ≡ p =
    said.once b.to p b.answers.said a.said (b.answers.proposer ∙ (to ∙ sym a.mine.proposer)) b.answers.launch
    b.answers.serial in
    record {
      was = b.was;
      owner = b.owner ∙ to;
      number = sym (b.number ∙ ap (λ (q : Proposal). q.number) is);
      left = subst (λ (q : Proposal). IsLeft q.step row) is b.left;
    }

-- the row that this restarter's launch was granted last, under a serial
pub granted_number : (h : Holdings) (ms : List Message) (k : Knowledge) (n : ℕ) (p : Proposal) (of : Instance)
    → AreSaid h ms → AreExplained h ms → 1 ≤ k.launch → WasProposed p ms → IsMine k p
    → instance h n ≡ Some of → of.row.owner ≡ k.name → of.row.launch ≡ k.launch → of.row.serial ≡ p.serial
    → p.number ≡ of.row.number
granted_number h ms k n p of said explained launched w mine there owner launch serial =
    let g : WasGranted ms n of.row = (explained n of there).granted (subst (λ (x : ℕ). 1 ≤ x) (sym launch) launched) in
    let is : g.by ≡ p =
    said.once g.by p g.said w (g.proposer ∙ (owner ∙ sym mine.proposer)) (g.launch ∙ (launch ∙ sym mine.launch))
    (g.serial ∙ serial) in
    ap (λ (q : Proposal). q.number) (sym is) ∙ g.number

pub informed_granted : (y : History) (h : Holdings) (ms : List Message) (B : ℕ → ℕ → Type 0) (k : Knowledge)
    (i : KnownInstance) (p : Proposal) (after : After) (name : List ℕ) (row : Row) (run : Option KnownRun)
    → AreSaid h ms → AreExplained h ms → IsAt k i → i.phase ≡ phases.Waiting p after
    → WasSaid (messages.Ack name p.launch p.serial i.instance row) ms → name ≡ k.name → IsInformed y h ms B k
    → IsInformed y h ms B
    (knowledge_after k (with_run (change_of_instance (record i { row = row; phase = phase_after after })) run))
informed_granted y h ms B k i p after name row run said explained at ph w to f =
    quiet_changed y h ms B B k (with_run (change_of_instance j) run) n (Some j) said
    (record {
      serial = refl;
      stage = refl;
      up = up_by y h ms B k i f at (waits_not_idle i p after ph);
      rises = put_rises k j run f.rises;
      at = put_at k j run;
      begun = λ m x b. inl b;
      is_known = λ g e. subst (IsKnown y h ms B l n) (some_one j g e) known_now;
      never = λ g q b e x. after_no_wait after b q (ap (λ (z : KnownInstance). z.phase) (some_one j g e) ∙ x);
      dropped = λ g q b e x. subst (IsDeadFor h k) (one_awaited k i g p q after b at ph e x) dead;
    }) f
  where
    n : ℕ
    n = i.instance

    j : KnownInstance
    j = record i { row = row; phase = phase_after after }

    l : Knowledge
    l = knowledge_after k (with_run (change_of_instance j) run)

    a : IsAwaited y h ms B k n i.row p after
    a = awaited_at y h ms B k i p after f at ph

    b : IsTheAck h k n p row
    b = the_ack y h ms B k n i.row p after name row said a w to

    dead : IsDeadFor h k p
    dead of there owner low x at_x =
        let was : row.number ≤ x.row.number =
        (b.was.before x (subst (λ (m : ℕ). instance h m ≡ Some x) a.at at_x)).number in
        let number : p.number ≡ row.number = b.number in
        inl (omega arith)

    of_k : IsAckOf k p.serial n row ms
    of_k = subst (λ (x : ℕ). WasSaid (messages.Ack k.name x p.serial n row) ms) a.mine.launch
        (subst (λ (x : List ℕ). WasSaid (messages.Ack x p.launch p.serial n row) ms) to w)

    still : is_begun p.step ≡ true → IsStill h k n p.serial
    still e = f.acks p.serial n row p after i of_k at.is_known ph refl e

    granted_now : is_begun p.step ≡ true → IsGrantedTo h k.name k.launch n row
    granted_now e =
        let s : IsStill h k n p.serial = still e in
        record {
          of = s.of;
          there = s.there;
          owner = s.owner;
          launch = s.launch;
          number = sym (granted_number h ms k n p s.of said explained f.launched a.said a.mine s.there s.owner
              s.launch s.serial_is) ∙ b.number;
        }

    unspent : (m : ℕ) → is_begun p.step ≡ true → run_of p.step ≡ Some m → B n m → ⊥
    unspent m e x c = let s : IsStill h k n p.serial = still e in
        a.unspent s.of m s.there s.owner s.launch s.serial_is x c

    phase_now : IsInPhase y h ms B k n row (phase_after after)
    phase_now = granted_phase y h ms B k n i.row row p.step after a.plan b.left
        (sym b.number ∙ a.number) granted_now unspent

    known_now : IsKnown y h ms B l n j
    known_now = phase_known y h ms B k (with_run (change_of_instance j) run) n j refl
        (record { was = b.was; owner = b.owner; phase = phase_now })

-- A proposal keeps what holds of what a restarter knows, and may be said.
use Rattle.std.proofs.Common.{◌≡◌, ◌⊎◌, inl, inr, ℕ, ◌+◌, ◌≤◌, ◌<◌, true, List, ◌∷◌, Option, Some, refl, sym, ap, ◌∙◌, subst, arith}
use Rattle.std.specs.Prelude.{unwrap_or}
use Rattle.smf_fmri.specs.ByKey.{Rises}
use Rattle.smf_fmri.proofs.Lookups.{with_answer_here}
use Rattle.smf_fmri.proofs.KeyOrder.{rises_put}
use Rattle.smf_contract.specs.declared.cookie.Method.TheVariants as methods
use Rattle.smf_state.specs.declared.row.Row.{Row}
use Rattle.smf_state.specs.declared.step.Proposal.{Proposal}
use Rattle.smf_state.specs.declared.step.Step.{Step}
use Rattle.smf_state.specs.declared.step.Step.TheVariants.{Move, Start, Stop, Refresh, End, Note}
use Rattle.smf_method.specs.declared.call.MethodCall.{MethodCall}
use Rattle.smf_state.specs.declared.state.Duration.{Duration}
use Rattle.smf_state.specs.declared.refusal.Why.{Why}
use Rattle.smf_model.specs.declared.held.Instance.{Instance}
use Rattle.smf_model.specs.History.{History}
use Rattle.smf_model.specs.Contents.{Holdings}
use Rattle.smf_model.specs.Look.{instance}
use Rattle.smf_wire.specs.declared.message.Message.{Message}
use Rattle.smf_wire.specs.declared.message.Message.TheVariants as messages
use Rattle.smf_wire.specs.declared.order.Order.{Order}
use Rattle.smf_wire.specs.declared.order.What.TheVariants as whats
use Rattle.smf_restarter.specs.declared.known.After.{After}
use Rattle.smf_restarter.specs.declared.known.Ending.{Ending}
use Rattle.smf_restarter.specs.declared.known.KnownInstance.{KnownInstance}
use Rattle.smf_restarter.specs.declared.known.Phase.TheVariants as phases
use Rattle.smf_restarter.specs.declared.known.Stage.TheVariants as stages
use Rattle.smf_restarter.specs.Changes.{knowledge_after}
use Rattle.smf_restarter.specs.Knowledge.{Knowledge, by_instance, known_instance}
use Rattle.smf_restarter.specs.Orders.{owed_by, proposal, start_step, waiting_instance}
use Rattle.smf_restarter.specs.Ticks.{is_up}
use Rattle.smf_world.proofs.RowClauses.{AreExplained, WasGranted, WasProposed, WasRow}
use Rattle.smf_safety.proofs.SaidClauses.{AreSaid, IsPastStep, IsSaid, MayBeSaid}
use Rattle.smf_world.proofs.DecidedClauses.{IsReadyAt}
use Rattle.smf_safety.proofs.KnowClauses.{IsAckOf, IsInformed, IsKnown, IsMine, IsNackOf, IsPlanned}
use Rattle.smf_safety.proofs.KnowSteps.{IsOrdered, Proposes, ends, is_plain, notes, orders, proposing_change, starts}
use Rattle.smf_safety.proofs.KnowDone.{IsGiven, WasTold, proposed_at, some_one}
use Rattle.smf_safety.proofs.KnowKept.{IsNew, IsSame, informed_changed, mine_back, said_is}

-- ---- what a proposal stands on

pub record IsProposable (y : History) (h : Holdings) (k : Knowledge) (i : KnownInstance) (step : Step)
    (after : After) : Type 0 where
  pub was : WasRow h i.instance i.row
  pub owner : i.row.owner ≡ k.name
  pub plan : IsPlanned y i.instance i.row step after
  pub past : IsPastStep h.next_snapshot h.revision step
  pub free : (j : KnownInstance) (p : Proposal) (b : After) → known_instance k i.instance ≡ Some j
      → j.phase ≡ phases.Waiting p b → ⊥

past_step : (m r : ℕ) (s : Step) → is_plain s ≡ true → IsPastStep m r s
past_step m r (Start run snapshot duration ignore revision) e = absurd cc
past_step m r (Move to) e = tt
past_step m r (Stop to cause run) e = tt
past_step m r (Refresh run) e = tt
past_step m r (End to keep failed cause) e = absurd cc
past_step m r (Note bits keep) e = absurd cc

idle_free : (i : KnownInstance) (p : Proposal) (b : After) → i.phase ≡ phases.Idle → i.phase ≡ phases.Waiting p b → ⊥
idle_free i p b e f = let g : phases.Idle ≡ phases.Waiting p b = sym e ∙ f in cc

ending_free : (i : KnownInstance) (x : Ending) (p : Proposal) (b : After) → i.phase ≡ phases.Ending x
    → i.phase ≡ phases.Waiting p b → ⊥
ending_free i x p b e f = let g : phases.Ending x ≡ phases.Waiting p b = sym e ∙ f in cc

-- the row for which an order is taken
record IsRowFor (h : Holdings) (k : Knowledge) (i : KnownInstance) : Type 0 where
  was : WasRow h i.instance i.row
  owner : i.row.owner ≡ k.name

row_for : (y : History) (h : Holdings) (ms : List Message) (B : ℕ → ℕ → Type 0) (k : Knowledge) (o : Order)
    (i : KnownInstance) → AreSaid h ms → WasTold y h ms k (messages.Order o) → IsOrdered k o i → IsInformed y h ms B k
    → IsRowFor h k i
row_for y h ms B k o i said w x f = by x.row
  where
    was : WasRow h o.instance o.row
    was = said_is (IsSaid h ms) (messages.Order o) ms said.each w.said

    by : (i.row ≡ o.row) ⊎ (known_instance k o.instance ≡ Some i) → IsRowFor h k i
    by (inl e) =
        record {
          was = subst (λ (n : ℕ). WasRow h n i.row) (sym x.at) (subst (WasRow h o.instance) (sym e) was);
          owner = ap (λ (r : Row). r.owner) e ∙ w.to.owner;
        }
    by (inr e) =
        let a = f.each o.instance i e in
        record { was = subst (λ (n : ℕ). WasRow h n i.row) (sym x.at) a.was; owner = a.owner }

ordered_free : (k : Knowledge) (o : Order) (i : KnownInstance) → IsOrdered k o i
    → (j : KnownInstance) (p : Proposal) (b : After) → known_instance k i.instance ≡ Some j
    → j.phase ≡ phases.Waiting p b → ⊥
ordered_free k o i x j p b e f = idle_free j p b (x.free j (subst (λ (n : ℕ). known_instance k n ≡ Some j) x.at e)) f

start_planned : (y : History) (h : Holdings) (k : Knowledge) (o : Order) (i : KnownInstance) (call : MethodCall)
    (duration : Duration) (ignore : ℕ) → IsGiven y h k o → IsOrdered k o i → o.what ≡ whats.Start call duration ignore
    → IsPlanned y i.instance i.row (start_step o (i.row.last + 1) duration ignore)
    (owed_by o methods.Start (i.row.last + 1) call)
start_planned y h k o i call duration ignore g x what =
    record {
      owed = record { method = methods.Start; run = i.row.last + 1; revision = o.revision; call = call };
      is = refl;
      method_is = refl;
      run_is = refl;
      next = refl;
      revision_is = refl;
      read = record { call = call; duration = duration; ignore = ignore };
      decided = o.row;
      ready = subst (λ (n : ℕ). IsReadyAt y o.revision n i.row.number (unwrap_or o.row.running 0)
          (record { call = call; duration = duration; ignore = ignore }) o.row) (sym x.at)
          (subst (λ (n : ℕ). IsReadyAt y o.revision o.instance n (unwrap_or o.row.running 0)
          (record { call = call; duration = duration; ignore = ignore }) o.row) (sym x.number)
          (g.ready call duration ignore what));
      call = refl;
    }

pub proposable : (y : History) (h : Holdings) (ms : List Message) (B : ℕ → ℕ → Type 0) (k : Knowledge)
    (i : KnownInstance) (step : Step) (after : After) → AreSaid h ms → IsInformed y h ms B k
    → Proposes k (WasTold y h ms k) i step after → IsProposable y h k i step after
proposable y h ms B k i step after said f (starts o call duration ignore w x what is then_is) =
    let r : IsRowFor h k i = row_for y h ms B k o i said w x f in
    record {
      was = r.was;
      owner = r.owner;
      plan = subst (λ (s : Step). IsPlanned y i.instance i.row s after) (sym is)
          (subst (λ (a : After). IsPlanned y i.instance i.row (start_step o (i.row.last + 1) duration ignore) a)
          (sym then_is) (start_planned y h k o i call duration ignore w.to x what));
      past = subst (IsPastStep h.next_snapshot h.revision) (sym is) (w.to.past call duration ignore what);
      free = ordered_free k o i x;
    }
proposable y h ms B k i step after said f (orders o w x plain anyhow) =
    let r : IsRowFor h k i = row_for y h ms B k o i said w x f in
    record {
      was = r.was;
      owner = r.owner;
      plan = anyhow y i.instance;
      past = past_step h.next_snapshot h.revision step plain;
      free = ordered_free k o i x;
    }
proposable y h ms B k i step after said f (ends e at ph drained is then_is) =
    let a = f.each i.instance i at.is_known in
    record {
      was = a.was;
      owner = a.owner;
      plan = subst (λ (s : Step). IsPlanned y i.instance i.row s after) (sym is) then_is;
      past = subst (IsPastStep h.next_snapshot h.revision) (sym is) tt;
      free = λ j p b there x. ending_free i e p b ph
          (ap (λ (z : KnownInstance). z.phase) (some_one i j (sym at.is_known ∙ there)) ∙ x);
    }
proposable y h ms B k i step after said f (notes bits at ph due is then_is) =
    let a = f.each i.instance i at.is_known in
    record {
      was = a.was;
      owner = a.owner;
      plan = subst (λ (s : Step). IsPlanned y i.instance i.row s after) (sym is) then_is;
      past = subst (IsPastStep h.next_snapshot h.revision) (sym is) tt;
      free = λ j p b there x. idle_free i p b ph
          (ap (λ (z : KnownInstance). z.phase) (some_one i j (sym at.is_known ∙ there)) ∙ x);
    }

-- ---- it may be said

too_great : (s t : ℕ) → s + 1 ≡ t → t ≤ s → ⊥
too_great s t e f = omega arith

pub may_propose : (y : History) (h : Holdings) (ms : List Message) (B : ℕ → ℕ → Type 0) (k : Knowledge)
    (i : KnownInstance) (step : Step) (after : After) → IsInformed y h ms B k → IsProposable y h k i step after
    → MayBeSaid h ms (messages.Propose (proposal k i step))
may_propose y h ms B k i step after f p =
    record {
      is = record {
        launch = subst (λ (x : ℕ). k.launch ≤ x) f.launch (omega arith);
        launched = f.launched;
        serial = omega arith;
        numbered = omega arith;
        known = p.was.known;
        number = λ x there. let low : i.row.number ≤ x.row.number = (p.was.before x there).number in omega arith;
        step = p.past;
      };
      once = λ q w proposer launch serial. absurd
          (too_great k.serial q.serial serial (f.serial q w (record { proposer = sym proposer; launch = sym launch })));
    }

-- ---- what is known behind it

proposes_same : (k : Knowledge) (i : KnownInstance) (step : Step) (after : After)
    → IsSame k (knowledge_after k (proposing_change k i step after))
unfolding knowledge_after
proposes_same k i step after = record { name = refl; launch = refl; serial = omega arith }

proposes_rises : (k : Knowledge) (i : KnownInstance) (step : Step) (after : After) → Rises by_instance k.instances
    → Rises by_instance (knowledge_after k (proposing_change k i step after)).instances
unfolding knowledge_after
proposes_rises k i step after r = rises_put by_instance (waiting_instance i (proposal k i step) after) k.instances r

proposes_parts : (k : Knowledge) (i : KnownInstance) (step : Step) (after : After) → let l =
    knowledge_after k (proposing_change k i step after) in
    (l.serial ≡ k.serial + 1) × (l.stage ≡ k.stage) × (l.name ≡ k.name) × (l.launch ≡ k.launch)
unfolding knowledge_after
proposes_parts k i step after = (refl, refl, refl, refl)

one_proposal : (p q : Proposal) → messages.Propose p ≡ messages.Propose q → p ≡ q
one_proposal p q e = cc

pub informed_proposes : (y : History) (h : Holdings) (ms : List Message) (B : ℕ → ℕ → Type 0) (k : Knowledge)
    (i : KnownInstance) (step : Step) (after : After)
    → AreSaid h ms → AreExplained h ms → k.stage ≡ stages.Up → IsProposable y h k i step after → IsInformed y h ms B k
    → IsInformed y h (messages.Propose (proposal k i step) ∷ ms) B (knowledge_after k (proposing_change k i step after))
informed_proposes y h ms B k i step after said explained stage w f =
    informed_changed y h ms us B B k l n (Some j) said
    (record {
      same = same;
      up = ap is_up stage;
      stage = parts.1;
      rises = proposes_rises k i step after f.rises;
      at = proposed_at k i step after;
      said = λ q x. inr x;
      mine = λ q x is. mine_by q x;
      acks = λ serial m r x. ack_by serial m r x;
      nacks = λ serial m why r x. nack_by serial m why r x;
      begun = λ m run b. inl b;
      is_known = λ g e. subst (IsKnown y h us B l n) (some_one j g e) known_now;
      fresh = λ g q b e x. subst (λ (z : Proposal). k.serial < z.serial)
          (waits_for q b (ap (λ (z : KnownInstance). z.phase) (some_one j g e) ∙ x)) (omega arith);
      dropped = λ g q b e x. absurd (w.free g q b e x);
    }) f
  where
    p : Proposal
    p = proposal k i step

    us : List Message
    us = messages.Propose p ∷ ms

    l : Knowledge
    l = knowledge_after k (proposing_change k i step after)

    n : ℕ
    n = i.instance

    j : KnownInstance
    j = waiting_instance i p after

    same : IsSame k l
    same = proposes_same k i step after

    parts : (l.serial ≡ k.serial + 1) × (l.stage ≡ k.stage) × (l.name ≡ k.name) × (l.launch ≡ k.launch)
    parts = proposes_parts k i step after

    waits_for : (q : Proposal) (b : After) → phases.Waiting p after ≡ phases.Waiting q b → p ≡ q
    waits_for q b e = cc

    there_now : known_instance l n ≡ Some j
    there_now = proposed_at k i step after n ∙ with_answer_here by_instance (known_instance k) n (Some j)

    new : IsNew k l n p
    new = record {
      at = refl;
      serial = subst (λ (x : ℕ). p.serial ≤ x) (sym parts.0) (omega arith);
      awaited = record { of = j; after = after; is_known = there_now; phase = refl };
    }

    mine_by : (q : Proposal) → (messages.Propose p ≡ messages.Propose q) ⊎ WasProposed q ms
        → WasProposed q ms ⊎ IsNew k l n q
    mine_by q (inl e) = inr (subst (IsNew k l n) (one_proposal p q e) new)
    mine_by q (inr x) = inl x

    ack_by : (serial m : ℕ) (r : Row) → IsAckOf k serial m r us → IsAckOf k serial m r ms
    ack_by serial m r (inl e) = absurd (let g : messages.Propose p ≡ messages.Ack k.name k.launch serial m r = e in cc)
    ack_by serial m r (inr x) = x

    nack_by : (serial m : ℕ) (why : Why) (r : Option Row) → IsNackOf k serial m why r us → IsNackOf k serial m why r ms
    nack_by serial m why r (inl e) =
        absurd (let g : messages.Propose p ≡ messages.Nack k.name k.launch serial m why r = e in cc)
    nack_by serial m why r (inr x) = x

    greatest_by : (q : Proposal) → (messages.Propose p ≡ messages.Propose q) ⊎ WasProposed q ms → IsMine k q
        → q.serial ≤ p.serial
    greatest_by q (inl e) is = subst (λ (z : Proposal). z.serial ≤ p.serial) (one_proposal p q e) (omega arith)
    greatest_by q (inr x) is = let low : q.serial ≤ k.serial = f.serial q x is in omega arith

    granted_before : (of : Instance) → instance h n ≡ Some of → of.row.owner ≡ k.name → of.row.launch ≡ k.launch
        → of.row.serial ≡ p.serial → ⊥
    granted_before of there owner launch serial =
        let g : WasGranted ms n of.row =
        (explained n of there).granted (subst (λ (x : ℕ). 1 ≤ x) (sym launch) f.launched) in
        too_great k.serial g.by.serial (sym (g.serial ∙ serial))
        (f.serial g.by g.said (record { proposer = g.proposer ∙ owner; launch = g.launch ∙ launch }))

    known_now : IsKnown y h us B l n j
    known_now =
        record {
          was = w.was;
          owner = w.owner ∙ sym same.name;
          phase = record {
            mine = record { proposer = sym same.name; launch = sym same.launch };
            at = refl;
            number = refl;
            serial = new.serial;
            said = inl refl;
            greatest = λ q x is at. greatest_by q x (mine_back k l q same is);
            plan = w.plan;
            unspent = λ of run there owner launch serial e b.
                granted_before of there (owner ∙ same.name) (launch ∙ same.launch) serial;
          };
        }

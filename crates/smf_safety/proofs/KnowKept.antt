-- A change of one instance keeps the other clauses on a restarter's knowledge; so do more messages and more runs.
use Rattle.std.proofs.Common.{◌≡◌, ◌⊎◌, inl, inr, ℕ, ◌≤◌, ◌<◌, Bool, true, false, List, [], ◌∷◌, Option, Some, refl, sym, ap, ◌∙◌, subst, arith}
use Rattle.std.specs.Ordering.{is_eq, nat_cmp}
use Rattle.smf_fmri.specs.ByKey.{Rises, with_answer}
use Rattle.smf_fmri.proofs.Lookups.{key_cases, same_key, with_answer_cases, with_answer_other}
use Rattle.smf_state.specs.declared.row.Row.{Row}
use Rattle.smf_state.specs.declared.step.Proposal.{Proposal}
use Rattle.smf_state.specs.declared.refusal.Why.{Why}
use Rattle.smf_model.specs.declared.held.Instance.{Instance}
use Rattle.smf_model.specs.History.{History}
use Rattle.smf_model.specs.Contents.{Holdings}
use Rattle.smf_model.specs.Look.{instance, launch_of}
use Rattle.smf_wire.specs.declared.message.Message.{Message}
use Rattle.smf_wire.specs.declared.message.Message.TheVariants as messages
use Rattle.smf_restarter.specs.declared.known.After.{After}
use Rattle.smf_restarter.specs.declared.known.KnownInstance.{KnownInstance}
use Rattle.smf_restarter.specs.declared.known.Owed.{Owed}
use Rattle.smf_restarter.specs.declared.known.Phase.{Phase}
use Rattle.smf_restarter.specs.declared.known.Phase.TheVariants as phases
use Rattle.smf_restarter.specs.declared.known.Stage.{Stage}
use Rattle.smf_restarter.specs.declared.known.Stage.TheVariants.{Joining}
use Rattle.smf_restarter.specs.Knowledge.{Knowledge, by_instance, known_instance}
use Rattle.smf_restarter.specs.Ticks.{is_up}
use Rattle.smf_world.proofs.RowClauses.{WasProposed, WasSaid}
use Rattle.smf_safety.proofs.SaidClauses.{AreSaid, IsSaid}
use Rattle.smf_world.proofs.LiveLists.{Each}
use Rattle.smf_safety.proofs.KnowClauses.{IsAckOf, IsAwaited, IsAwaitedBy, IsDeadFor, IsInPhase, IsInformed, IsKnown, IsMine, IsNackOf, IsOwing, IsRefusal, IsStill, is_begun}

-- ---- messages

-- a fact of each message holds of one that was said
pub said_is : (P : Message → Type 0) (m : Message) (ms : List Message) → Each P ms → WasSaid m ms → P m
said_is P m [] e w = absurd w
said_is P m (x ∷ xs) e (inl same) = subst P same e.0
said_is P m (x ∷ xs) e (inr w) = said_is P m xs e.1 w

-- an answer in the name of a restarter's launch answers a proposal of it
pub ack_bound : (y : History) (h : Holdings) (ms : List Message) (B : ℕ → ℕ → Type 0) (k : Knowledge) (serial n : ℕ)
    (r : Row) → AreSaid h ms → IsInformed y h ms B k → IsAckOf k serial n r ms → serial ≤ k.serial
ack_bound y h ms B k serial n r said f w =
    let a = said_is (IsSaid h ms) (messages.Ack k.name k.launch serial n r) ms said.each w in
    subst (λ (s : ℕ). s ≤ k.serial) a.answers.serial
    (f.serial a.to a.answers.said (record { proposer = a.answers.proposer; launch = a.answers.launch }))

pub nack_bound : (y : History) (h : Holdings) (ms : List Message) (B : ℕ → ℕ → Type 0) (k : Knowledge) (serial n : ℕ)
    (why : Why) (r : Option Row) → AreSaid h ms → IsInformed y h ms B k → IsNackOf k serial n why r ms
    → serial ≤ k.serial
nack_bound y h ms B k serial n why r said f w =
    let a = said_is (IsSaid h ms) (messages.Nack k.name k.launch serial n why r) ms said.each w in
    subst (λ (s : ℕ). s ≤ k.serial) a.answers.serial
    (f.serial a.to a.answers.said (record { proposer = a.answers.proposer; launch = a.answers.launch }))

-- ---- the same restarter

-- it has its name and its launch, and its serial has not fallen
pub record IsSame (k l : Knowledge) : Type 0 where
  pub name : l.name ≡ k.name
  pub launch : l.launch ≡ k.launch
  pub serial : k.serial ≤ l.serial

pub mine_back : (k l : Knowledge) (q : Proposal) → IsSame k l → IsMine l q → IsMine k q
mine_back k l q s m = record { proposer = m.proposer ∙ s.name; launch = m.launch ∙ s.launch }

mine_on : (k l : Knowledge) (q : Proposal) → IsSame k l → IsMine k q → IsMine l q
mine_on k l q s m = record { proposer = m.proposer ∙ sym s.name; launch = m.launch ∙ sym s.launch }

pub dead_on : (h : Holdings) (k l : Knowledge) (q : Proposal) → IsSame k l → IsDeadFor h k q → IsDeadFor h l q
dead_on h k l q s d i there owner low = d i there (owner ∙ s.name) low

ack_back : (k l : Knowledge) (serial n : ℕ) (r : Row) (ms : List Message) → IsSame k l → IsAckOf l serial n r ms
    → IsAckOf k serial n r ms
ack_back k l serial n r ms s w =
    subst (λ (x : ℕ). WasSaid (messages.Ack k.name x serial n r) ms) s.launch
    (subst (λ (x : List ℕ). WasSaid (messages.Ack x l.launch serial n r) ms) s.name w)

nack_back : (k l : Knowledge) (serial n : ℕ) (why : Why) (r : Option Row) (ms : List Message) → IsSame k l
    → IsNackOf l serial n why r ms → IsNackOf k serial n why r ms
nack_back k l serial n why r ms s w =
    subst (λ (x : ℕ). WasSaid (messages.Nack k.name x serial n why r) ms) s.launch
    (subst (λ (x : List ℕ). WasSaid (messages.Nack x l.launch serial n why r) ms) s.name w)

pub still_on : (h : Holdings) (k l : Knowledge) (n serial : ℕ) → IsSame k l → IsStill h k n serial
    → IsStill h l n serial
still_on h k l n serial s t =
    record {
      of = t.of;
      there = t.there;
      owner = t.owner ∙ sym s.name;
      launch = t.launch ∙ sym s.launch;
      serial_is = t.serial_is;
    }

pub refusal_on : (h : Holdings) (k l : Knowledge) (p : Proposal) (why : Why) (o : Option Row) → IsSame k l
    → IsRefusal h k p why o → IsRefusal h l p why o
refusal_on h k l p why o s t =
    record { dead = dead_on h k l p s t.dead; row = λ r e apart. t.row r e apart ∙ sym s.name }

-- ---- an instance that stays as it is known

-- more messages and runs, but none that speak of instance n for this restarter
pub record IsMore (h : Holdings) (ms us : List Message) (B C : ℕ → ℕ → Type 0) (k l : Knowledge) (n : ℕ) : Type 0 where
  pub same : IsSame k l
  pub said : (q : Proposal) → WasProposed q ms → WasProposed q us
  pub mine : (q : Proposal) → WasProposed q us → IsMine k q → q.instance ≡ n → WasProposed q ms
  pub begun : (run : ℕ) (of : Instance) → instance h n ≡ Some of → of.row.owner ≡ k.name → C n run → B n run

awaited_more : (y : History) (h : Holdings) (ms us : List Message) (B C : ℕ → ℕ → Type 0) (k l : Knowledge) (n : ℕ)
    (r : Row) (p : Proposal) (after : After)
    → IsMore h ms us B C k l n → IsAwaited y h ms B k n r p after → IsAwaited y h us C l n r p after
awaited_more y h ms us B C k l n r p after m a =
    record {
      mine = mine_on k l p m.same a.mine;
      at = a.at;
      number = a.number;
      serial = let low : p.serial ≤ k.serial = a.serial in let up : k.serial ≤ l.serial = m.same.serial in omega arith;
      said = m.said p a.said;
      greatest = λ q w is e. let is_k : IsMine k q = mine_back k l q m.same is in
          a.greatest q (m.mine q w is_k e) is_k e;
      plan = a.plan;
      unspent = λ i run there owner launch serial f b. a.unspent i run there (owner ∙ m.same.name)
          (launch ∙ m.same.launch) serial f (m.begun run i there (owner ∙ m.same.name) b);
    }

owing_more : (y : History) (h : Holdings) (ms us : List Message) (B C : ℕ → ℕ → Type 0) (k l : Knowledge) (n : ℕ)
    (r : Row) (o : Owed) → IsMore h ms us B C k l n → IsOwing y h B k n r o → IsOwing y h C l n r o
owing_more y h ms us B C k l n r o m a =
    record {
      of = a.of;
      there = a.there;
      owner = a.owner ∙ sym m.same.name;
      number = a.number;
      launch = a.launch ∙ sym m.same.launch;
      under = a.under;
      run = a.run;
      fresh = λ b. a.fresh (m.begun o.run a.of a.there a.owner b);
      begins = a.begins;
    }

phase_more : (y : History) (h : Holdings) (ms us : List Message) (B C : ℕ → ℕ → Type 0) (k l : Knowledge) (n : ℕ)
    (r : Row) (p : Phase) → IsMore h ms us B C k l n → IsInPhase y h ms B k n r p → IsInPhase y h us C l n r p
phase_more y h ms us B C k l n r phases.Idle m a = tt
phase_more y h ms us B C k l n r (phases.Waiting p after) m a = awaited_more y h ms us B C k l n r p after m a
phase_more y h ms us B C k l n r (phases.Owes o) m a = owing_more y h ms us B C k l n r o m a
phase_more y h ms us B C k l n r (phases.Running x) m a = a
phase_more y h ms us B C k l n r (phases.Ending e) m a = a

pub known_more : (y : History) (h : Holdings) (ms us : List Message) (B C : ℕ → ℕ → Type 0) (k l : Knowledge) (n : ℕ)
    (i : KnownInstance) → IsMore h ms us B C k l n → IsKnown y h ms B k n i → IsKnown y h us C l n i
known_more y h ms us B C k l n i m a =
    record {
      was = a.was;
      owner = a.owner ∙ sym m.same.name;
      phase = phase_more y h ms us B C k l n i.row i.phase m a.phase;
    }

-- ---- messages that are not this restarter's

-- more messages and runs: each of its proposals was said before, and each answer to one
pub record IsElsewhere (ms us : List Message) (k : Knowledge) : Type 0 where
  pub said : (q : Proposal) → WasProposed q ms → WasProposed q us
  pub mine : (q : Proposal) → WasProposed q us → IsMine k q → WasProposed q ms
  pub acks : (serial n : ℕ) (r : Row) → IsAckOf k serial n r us → IsAckOf k serial n r ms
  pub nacks : (serial n : ℕ) (why : Why) (r : Option Row) → IsNackOf k serial n why r us → IsNackOf k serial n why r ms

itself : (k : Knowledge) → IsSame k k
itself k = record { name = refl; launch = refl; serial = omega arith }

pub informed_elsewhere : (y : History) (h : Holdings) (ms us : List Message) (B C : ℕ → ℕ → Type 0) (k : Knowledge)
    → IsElsewhere ms us k
    → ((n run : ℕ) (of : Instance) → instance h n ≡ Some of → of.row.owner ≡ k.name → C n run → B n run)
    → IsInformed y h ms B k → IsInformed y h us C k
informed_elsewhere y h ms us B C k m begun f =
    record {
      launch = f.launch;
      launched = f.launched;
      rises = f.rises;
      blank = f.blank;
      unserved = f.unserved;
      idle = f.idle;
      serial = λ q w is. f.serial q (m.mine q w is) is;
      each = λ n i e. known_more y h ms us B C k k n i
          (record { same = itself k; said = m.said; mine = λ q w is at. m.mine q w is; begun = begun n })
          (f.each n i e);
      dead = λ q w is. f.dead q (m.mine q w is) is;
      acks = λ serial n r p after i w e ph s b. f.acks serial n r p after i (m.acks serial n r w) e ph s b;
      nacks = λ serial n why o p after i w e ph s. f.nacks serial n why o p after i (m.nacks serial n why o w) e ph s;
    }

-- ---- one instance is known otherwise

-- a new proposal: its instance, its serial, and that it is awaited
pub record IsNew (k l : Knowledge) (n : ℕ) (q : Proposal) : Type 0 where
  pub at : q.instance ≡ n
  pub serial : q.serial ≤ l.serial
  pub awaited : IsAwaitedBy l q

-- l knows o of n, and all else as k does
pub record IsChanged (y : History) (h : Holdings) (ms us : List Message) (B C : ℕ → ℕ → Type 0) (k l : Knowledge)
    (n : ℕ) (o : Option KnownInstance) : Type 0 where
  pub same : IsSame k l
  pub up : is_up k.stage ≡ true
  pub stage : l.stage ≡ k.stage
  pub rises : Rises by_instance l.instances
  pub at : (j : ℕ) → known_instance l j ≡ with_answer by_instance (known_instance k) n o j
  pub said : (q : Proposal) → WasProposed q ms → WasProposed q us
  pub mine : (q : Proposal) → WasProposed q us → IsMine k q → WasProposed q ms ⊎ IsNew k l n q
  pub acks : (serial j : ℕ) (r : Row) → IsAckOf k serial j r us → IsAckOf k serial j r ms
  pub nacks : (serial j : ℕ) (why : Why) (r : Option Row) → IsNackOf k serial j why r us → IsNackOf k serial j why r ms
  pub begun : (j run : ℕ) → C j run → B j run ⊎ (j ≡ n)
  pub is_known : (i : KnownInstance) → o ≡ Some i → IsKnown y h us C l n i
  pub fresh : (i : KnownInstance) (p : Proposal) (after : After) → o ≡ Some i → i.phase ≡ phases.Waiting p after
      → k.serial < p.serial
  pub dropped : (i : KnownInstance) (p : Proposal) (after : After) → known_instance k n ≡ Some i
      → i.phase ≡ phases.Waiting p after → IsDeadFor h k p

up_no_blank : (s : Stage) → is_up s ≡ true → s ≡ Joining → ⊥
up_no_blank s e f = let t : is_up Joining ≡ true = subst (λ (x : Stage). is_up x ≡ true) f e in cc

up_no_less : (b : Bool) → b ≡ true → b ≡ false → ⊥
up_no_less b e f = cc

other_than : (n j : ℕ) → is_eq (nat_cmp n j) ≡ false → n ≡ j → ⊥
other_than n j e f = let t : is_eq (nat_cmp n j) ≡ true =
    subst (λ (x : ℕ). is_eq (nat_cmp n x) ≡ true) f (ap is_eq (same_key by_instance n)) in cc

above : (s t : ℕ) → s ≤ t → t < s → ⊥
above s t e f = omega arith

more_at : (y : History) (h : Holdings) (ms us : List Message) (B C : ℕ → ℕ → Type 0) (k l : Knowledge) (n j : ℕ)
    (o : Option KnownInstance) → IsChanged y h ms us B C k l n o → is_eq (nat_cmp n j) ≡ false
    → IsMore h ms us B C k l j
more_at y h ms us B C k l n j o c apart =
    record {
      same = c.same;
      said = c.said;
      mine = λ q w is at. by q at (c.mine q w is);
      begun = λ run of there owner b. run_by run (c.begun j run b);
    }
  where
    by : (q : Proposal) → q.instance ≡ j → WasProposed q ms ⊎ IsNew k l n q → WasProposed q ms
    by q at (inl w) = w
    by q at (inr new) = absurd (other_than n j apart (sym new.at ∙ at))

    run_by : (run : ℕ) → B j run ⊎ (j ≡ n) → B j run
    run_by run (inl b) = b
    run_by run (inr e) = absurd (other_than n j apart (sym e))

pub informed_changed : (y : History) (h : Holdings) (ms us : List Message) (B C : ℕ → ℕ → Type 0) (k l : Knowledge)
    (n : ℕ) (o : Option KnownInstance)
    → AreSaid h ms → IsChanged y h ms us B C k l n o → IsInformed y h ms B k → IsInformed y h us C l
informed_changed y h ms us B C k l n o said c f =
    record {
      launch = c.same.launch ∙ (f.launch ∙ ap (launch_of h) (sym c.same.name));
      launched = subst (λ (x : ℕ). 1 ≤ x) (sym c.same.launch) f.launched;
      rises = c.rises;
      blank = λ e. absurd (up_no_blank k.stage c.up (sym c.stage ∙ e));
      unserved = λ e. absurd (up_no_less (is_up k.stage) c.up (ap is_up (sym c.stage) ∙ e));
      idle = λ e. absurd (up_no_less (is_up k.stage) c.up (ap is_up (sym c.stage) ∙ e));
      serial = λ q w is. serial_by q (mine_back k l q c.same is) (c.mine q w (mine_back k l q c.same is));
      each = λ j i e. each_by j i (with_answer_cases by_instance (known_instance k) n o j (Some i) (sym (c.at j) ∙ e));
      dead = λ q w is. dead_by q (mine_back k l q c.same is) (c.mine q w (mine_back k l q c.same is));
      acks = λ serial j r p after i w e ph s b.
          let was : IsAckOf k serial j r ms = c.acks serial j r (ack_back k l serial j r us c.same w) in
          ack_by serial j r p after i was ph s b
          (with_answer_cases by_instance (known_instance k) n o j (Some i) (sym (c.at j) ∙ e));
      nacks = λ serial j why x p after i w e ph s.
          let was : IsNackOf k serial j why x ms = c.nacks serial j why x (nack_back k l serial j why x us c.same w) in
          nack_by serial j why x p after i was ph s
          (with_answer_cases by_instance (known_instance k) n o j (Some i) (sym (c.at j) ∙ e));
    }
  where
    serial_by : (q : Proposal) → IsMine k q → WasProposed q ms ⊎ IsNew k l n q → q.serial ≤ l.serial
    serial_by q is (inl w) = let low : q.serial ≤ k.serial = f.serial q w is in let up : k.serial ≤ l.serial =
        c.same.serial in omega arith
    serial_by q is (inr new) = new.serial

    each_by : (j : ℕ) (i : KnownInstance) → ((n ≡ j) × (o ≡ Some i))
        ⊎ ((is_eq (nat_cmp n j) ≡ false) × (known_instance k j ≡ Some i)) → IsKnown y h us C l j i
    each_by j i (inl here) = subst (λ (m : ℕ). IsKnown y h us C l m i) here.0 (c.is_known i here.1)
    each_by j i (inr other) =
        known_more y h ms us B C k l j i (more_at y h ms us B C k l n j o c other.0) (f.each j i other.1)

    awaited_by : (q : Proposal) → IsAwaitedBy k q → (n ≡ q.instance) ⊎ (is_eq (nat_cmp n q.instance) ≡ false)
        → IsDeadFor h l q ⊎ IsAwaitedBy l q
    awaited_by q a (inl here) =
        inl (dead_on h k l q c.same
        (c.dropped a.of q a.after (subst (λ (m : ℕ). known_instance k m ≡ Some a.of) (sym here) a.is_known) a.phase))
    awaited_by q a (inr other) =
        inr (record {
          of = a.of;
          after = a.after;
          is_known = c.at q.instance
              ∙ (with_answer_other by_instance (known_instance k) n o q.instance other ∙ a.is_known);
          phase = a.phase;
        })

    was_by : (q : Proposal) → IsDeadFor h k q ⊎ IsAwaitedBy k q → IsDeadFor h l q ⊎ IsAwaitedBy l q
    was_by q (inl d) = inl (dead_on h k l q c.same d)
    was_by q (inr a) = awaited_by q a (key_cases by_instance n q.instance (is_eq (nat_cmp n q.instance)) refl)

    dead_by : (q : Proposal) → IsMine k q → WasProposed q ms ⊎ IsNew k l n q → IsDeadFor h l q ⊎ IsAwaitedBy l q
    dead_by q is (inl w) = was_by q (f.dead q w is)
    dead_by q is (inr new) = inr new.awaited

    ack_by : (serial j : ℕ) (r : Row) (p : Proposal) (after : After) (i : KnownInstance) → IsAckOf k serial j r ms
        → i.phase ≡ phases.Waiting p after → p.serial ≡ serial → is_begun p.step ≡ true
        → ((n ≡ j) × (o ≡ Some i)) ⊎ ((is_eq (nat_cmp n j) ≡ false) × (known_instance k j ≡ Some i))
        → IsStill h l j serial
    ack_by serial j r p after i was ph s b (inl here) =
        absurd (above p.serial k.serial
        (subst (λ (x : ℕ). x ≤ k.serial) (sym s) (ack_bound y h ms B k serial j r said f was))
        (c.fresh i p after here.1 ph))
    ack_by serial j r p after i was ph s b (inr other) =
        still_on h k l j serial c.same (f.acks serial j r p after i was other.1 ph s b)

    nack_by : (serial j : ℕ) (why : Why) (x : Option Row) (p : Proposal) (after : After) (i : KnownInstance)
        → IsNackOf k serial j why x ms → i.phase ≡ phases.Waiting p after → p.serial ≡ serial
        → ((n ≡ j) × (o ≡ Some i)) ⊎ ((is_eq (nat_cmp n j) ≡ false) × (known_instance k j ≡ Some i))
        → IsRefusal h l p why x
    nack_by serial j why x p after i was ph s (inl here) =
        absurd (above p.serial k.serial
        (subst (λ (m : ℕ). m ≤ k.serial) (sym s) (nack_bound y h ms B k serial j why x said f was))
        (c.fresh i p after here.1 ph))
    nack_by serial j why x p after i was ph s (inr other) =
        refusal_on h k l p why x c.same (f.nacks serial j why x p after i was other.1 ph s)

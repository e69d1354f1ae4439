-- Accepted commands keep the clauses on a launched restarter's knowledge.
use Rattle.std.proofs.Common.{◌≡◌, ◌⊎◌, inl, inr, ℕ, ◌+◌, ◌≤◌, ◌==◌, Bool, true, false, List, Option, Some, None, refl, sym, ap, ◌∙◌, subst, arith}
use Rattle.std.proofs.lemmas.Bool.Decides.{nat_tests}
use Rattle.smf_fmri.proofs.Patterns.{same_text}
use Rattle.smf_contract.specs.declared.cookie.Method.{Method}
use Rattle.smf_contract.specs.declared.cookie.Method.TheVariants as methods
use Rattle.smf_state.specs.declared.row.Row.{Row}
use Rattle.smf_state.specs.declared.state.State.{State}
use Rattle.smf_state.specs.declared.step.Proposal.{Proposal}
use Rattle.smf_state.specs.declared.step.Step.{Step}
use Rattle.smf_state.specs.declared.step.Step.TheVariants.{Move, Start, Stop, Refresh, End, Note}
use Rattle.smf_state.specs.Rows.{run_of}
use Rattle.smf_method.specs.declared.call.ReadMethod.{ReadMethod}
use Rattle.smf_model.specs.declared.command.Command.{Command}
use Rattle.smf_model.specs.declared.command.Command.TheVariants as commands
use Rattle.smf_model.specs.declared.held.Instance.{Instance}
use Rattle.smf_model.specs.History.{History}
use Rattle.smf_model.specs.Contents.{Holdings}
use Rattle.smf_model.specs.Laws.{Stays}
use Rattle.smf_model.specs.Look.{instance, launch_of}
use Rattle.smf_model.specs.Next.{is_again}
use Rattle.smf_model.proofs.LawLists.{some_same}
use Rattle.smf_wire.specs.declared.message.Message.{Message}
use Rattle.smf_wire.specs.declared.message.Message.TheVariants as messages
use Rattle.smf_restarter.specs.declared.known.After.{After}
use Rattle.smf_restarter.specs.declared.known.KnownInstance.{KnownInstance}
use Rattle.smf_restarter.specs.declared.known.Owed.{Owed}
use Rattle.smf_restarter.specs.declared.known.Phase.{Phase}
use Rattle.smf_restarter.specs.declared.known.Phase.TheVariants as phases
use Rattle.smf_restarter.specs.Knowledge.{Knowledge, known_instance}
use Rattle.smf_world.proofs.RowClauses.{AreExplained, AreFit, IsDead, IsLeft, IsSpent, WasGranted, WasProposed, WasRow}
use Rattle.smf_safety.proofs.SaidClauses.{AreSaid, IsProposal, IsSaid}
use Rattle.smf_world.proofs.RowMoves.{IsGrant, Moves, RowMoves, RowPut, absent, boots, goes, granted, handed, joins, leaves, quiet}
use Rattle.smf_safety.proofs.RowLater.{CameOf, IsGiven as IsGrantedRow, began, booted, came_of, changed, is_given, was_later}
use Rattle.smf_safety.proofs.RowDead.{dead_later, granted_alive, raised_dead}
use Rattle.smf_safety.proofs.SaidLater.{IsAskable}
use Rattle.smf_world.proofs.DecidedClauses.{IsReadyAt}
use Rattle.smf_world.proofs.DecidedHistory.{Grew}
use Rattle.smf_safety.proofs.KnowClauses.{IsAwaited, IsAwaitedBy, IsDeadFor, IsInPhase, IsInformed, IsMine, IsOwedAs, IsOwing, IsPlanned, IsStill, IsUnder, is_begun}
use Rattle.smf_safety.proofs.KnowKept.{said_is}

-- ---- a history that grew

pub ready_later : (y z : History) (revision i number snapshot : ℕ) (read : ReadMethod) (row : Row) → Grew y z
    → IsReadyAt y revision i number snapshot read row → IsReadyAt z revision i number snapshot read row
ready_later y z revision i number snapshot read row g r =
    record {
      value = r.value;
      item = r.item;
      value_is = g revision r.value r.value_is;
      found = r.found;
      row_is = r.row_is;
      number_is = r.number_is;
      snapshot_is = r.snapshot_is;
      offline = r.offline;
      at_rest = r.at_rest;
      enabled = r.enabled;
      sound = r.sound;
      met = r.met;
      method = r.method;
    }

planned_later : (y z : History) (n : ℕ) (r : Row) (s : Step) (after : After) → Grew y z → IsPlanned y n r s after
    → IsPlanned z n r s after
planned_later y z n r (Start run snapshot duration ignore revision) after g p =
    record {
      owed = p.owed;
      is = p.is;
      method_is = p.method_is;
      run_is = p.run_is;
      next = p.next;
      revision_is = p.revision_is;
      read = p.read;
      decided = p.decided;
      ready = ready_later y z revision n r.number snapshot p.read p.decided g p.ready;
      call = p.call;
    }
planned_later y z n r (Stop to cause (Some run)) after g p = p
planned_later y z n r (Stop to cause None) after g p = p
planned_later y z n r (Refresh (Some run)) after g p = p
planned_later y z n r (Refresh None) after g p = p
planned_later y z n r (Move to) after g p = p
planned_later y z n r (End to keep failed cause) after g p = p
planned_later y z n r (Note bits keep) after g p = p

owed_later : (y z : History) (m : Method) (n : ℕ) (r : Row) (o : Owed) → Grew y z → IsOwedAs m y n r o
    → IsOwedAs m z n r o
owed_later y z methods.Start n r o g p =
    record {
      number = p.number;
      snapshot = p.snapshot;
      counted = p.counted;
      begun = p.begun;
      base = p.base;
      read = p.read;
      decided = p.decided;
      ready = ready_later y z o.revision n p.number p.snapshot p.read p.decided g p.ready;
      call = p.call;
    }
owed_later y z methods.Stop n r o g p = tt
owed_later y z methods.Refresh n r o g p = tt

-- ---- what the repository holds, before a command and behind it

-- a command that was accepted, and what holds of what was held before
pub record IsCommanded (h : Holdings) (c : Command) (g : Holdings) (ms : List Message)
    (B : ℕ → ℕ → Type 0) : Type 0 where
  pub moves : Moves h c g
  pub fit : AreFit h
  pub said : AreSaid h ms
  pub explained : AreExplained h ms
  pub spent : (n run : ℕ) → B n run → IsSpent h n run
  pub askable : IsAskable ms c
  pub no_boot : c ≡ commands.Boot → ⊥

pub proposal_is : (h : Holdings) (ms : List Message) (q : Proposal) → AreSaid h ms → WasProposed q ms → IsProposal h q
proposal_is h ms q said w = said_is (IsSaid h ms) (messages.Propose q) ms said.each w

-- a row that a launch was granted has a number
has_number : (h : Holdings) (n : ℕ) (i : Instance) (launch : ℕ) → AreFit h → instance h n ≡ Some i
    → i.row.launch ≡ launch → 1 ≤ launch → 1 ≤ i.row.number
has_number h n i launch fit there is low = by (i.row.number == 0) refl
  where
    zero_is : (m : ℕ) → (m == 0) ≡ true → m ≡ 0
    zero_is m e = grind (arith, nat_tests)

    not_zero : (m : ℕ) → (m == 0) ≡ false → 1 ≤ m
    not_zero m e = grind (arith, nat_tests)

    clash : (a b : ℕ) → a ≡ 0 → a ≡ b → 1 ≤ b → ⊥
    clash a b e f l = omega arith

    by : (b : Bool) → (i.row.number == 0) ≡ b → 1 ≤ i.row.number
    by true e = absurd (clash i.row.launch launch ((fit n i there).zero (zero_is i.row.number e)).launch is low)
    by false e = not_zero i.row.number e

-- a row with a number stays its owner's
same_owner : (r s : Row) → Stays r s → 1 ≤ r.number → s.owner ≡ r.owner
same_owner r s t low = by t.owner
  where
    clash : (m : ℕ) → m ≡ 0 → 1 ≤ m → ⊥
    clash m e l = omega arith

    by : (r.number ≡ 0) ⊎ (s.owner ≡ r.owner) → s.owner ≡ r.owner
    by (inl e) = absurd (clash r.number e low)
    by (inr e) = e

stays_number : (r s : Row) → Stays r s → s.number ≡ r.number
stays_number r s t = ap (λ (x : Row). x.number) t.same

-- ---- what is granted is awaited

-- a proposal that is granted anew to a row of this restarter's is one that it awaits
pub granted_awaited : (y : History) (h : Holdings) (m : ℕ) (ms : List Message) (B : ℕ → ℕ → Type 0) (k : Knowledge)
    (n : ℕ) (q : Proposal) (i : Instance) (s : Row)
    → WasProposed q ms → q.instance ≡ n → IsGrant h m q i.row s → instance h n ≡ Some i → i.row.owner ≡ k.name
    → 1 ≤ i.row.number → IsInformed y h ms B k → IsMine k q × IsAwaitedBy k q
granted_awaited y h m ms B k n q i s w at g there owner low f = (mine, by (f.dead q w mine))
  where
    reads : g.read.owner ≡ i.row.owner
    reads = by_owner g.reads.owner
      where
        clash : (x : ℕ) → x ≡ 0 → 1 ≤ x → ⊥
        clash x e l = omega arith

        by_owner : (i.row.number ≡ 0) ⊎ (g.read.owner ≡ i.row.owner) → g.read.owner ≡ i.row.owner
        by_owner (inl e) = absurd (clash i.row.number e low)
        by_owner (inr e) = e

    proposer : q.proposer ≡ k.name
    proposer = sym g.owner ∙ (reads ∙ owner)

    mine : IsMine k q
    mine = record { proposer = proposer; launch = g.launch ∙ (ap (launch_of h) proposer ∙ sym f.launch) }

    there_q : instance h q.instance ≡ Some i
    there_q = subst (λ (x : ℕ). instance h x ≡ Some i) (sym at) there

    by : IsDeadFor h k q ⊎ IsAwaitedBy k q → IsAwaitedBy k q
    by (inl d) = absurd (granted_alive h m q i s there_q g (d i there_q owner low))
    by (inr a) = a

-- ---- what is dead

dead_for_later : (y : History) (h : Holdings) (c : Command) (g : Holdings) (ms : List Message) (B : ℕ → ℕ → Type 0)
    (k : Knowledge) (q : Proposal) → IsCommanded h c g ms B → WasProposed q ms → IsDeadFor h k q → IsDeadFor g k q
dead_for_later y h c g ms B k q v w d j there owner low = by (came_of h c g q.instance j v.moves there)
  where
    p : IsProposal h q
    p = proposal_is h ms q v.said w

    put_by : (i : Instance) → instance h q.instance ≡ Some i → RowPut h g.next_snapshot c q.instance i.row j.row
        → IsDead g q
    put_by i at (quiet x) =
        let number : j.row.number ≡ i.row.number = stays_number i.row j.row x.stays in
        let positive : 1 ≤ i.row.number = subst (λ (n : ℕ). 1 ≤ n) number low in
        dead_later h c g q v.fit v.moves p (d i at (sym (same_owner i.row j.row x.stays positive) ∙ owner) positive)
    put_by i at (granted x is of_n t) =
        raised_dead h g q i j p at there
        (is_given h g.next_snapshot x i.row j.row t (v.fit q.instance i at).shape (v.fit q.instance i at).runs).counted
    put_by i at (handed is t) = raised_dead h g q i j p at there (ap (λ (r : Row). r.number) t.left)

    no_number : (m : ℕ) → m ≡ 0 → 1 ≤ m → ⊥
    no_number m e l = omega arith

    by : CameOf h g.next_snapshot c q.instance (instance h q.instance) j.row → IsDead g q
    by (changed i at x) = put_by i at x
    by (began none is new) = absurd (no_number j.row.number (ap (λ (r : Row). r.number) new) low)
    by (booted i own at is new) = absurd (v.no_boot is)

-- ---- what is awaited

no_launch : (a b : ℕ) → a ≡ b → a ≡ 0 → 1 ≤ b → ⊥
no_launch a b e f l = omega arith

too_far : (m last run : ℕ) → m ≡ last + 1 → m ≡ run → run ≤ last → ⊥
too_far m last run e f l = omega arith

unspent_later : (y : History) (h : Holdings) (c : Command) (g : Holdings) (ms : List Message) (B : ℕ → ℕ → Type 0)
    (k : Knowledge) (n : ℕ) (r : Row) (p : Proposal) (after : After)
    → IsCommanded h c g ms B → 1 ≤ k.launch → IsAwaited y h ms B k n r p after → (j : Instance) (run : ℕ)
    → instance g n ≡ Some j → j.row.owner ≡ k.name → j.row.launch ≡ k.launch → j.row.serial ≡ p.serial
    → run_of p.step ≡ Some run → B n run → ⊥
unspent_later y h c g ms B k n r p after v launched a j run there owner launch serial e b =
    by (came_of h c g n j v.moves there)
  where
    put_by : (i : Instance) → instance h n ≡ Some i → RowPut h g.next_snapshot c n i.row j.row → ⊥
    put_by i at (quiet x) =
        let launch_is : i.row.launch ≡ k.launch = sym (ap (λ (s : Row). s.launch) x.stays.same) ∙ launch in
        let serial_is : i.row.serial ≡ p.serial = sym (ap (λ (s : Row). s.serial) x.stays.same) ∙ serial in
        let low : 1 ≤ i.row.number = has_number h n i k.launch v.fit at launch_is launched in
        a.unspent i run at (sym (same_owner i.row j.row x.stays low) ∙ owner) launch_is serial_is e b
    put_by i at (granted q is of_n t) =
        let given : IsGrantedRow q i.row j.row =
        is_given h g.next_snapshot q i.row j.row t (v.fit n i at).shape (v.fit n i at).runs in
        let same : q ≡ p =
        v.said.once q p (v.askable q is) a.said (sym given.owner ∙ (owner ∙ sym a.mine.proposer))
        (sym given.launch ∙ (launch ∙ sym a.mine.launch)) (sym given.serial ∙ serial) in
        let run_is = given.run run (ap (λ (x : Proposal). run_of x.step) same ∙ e) in
        too_far run i.row.last run run_is.0 refl ((v.spent n run b).last i at)
    put_by i at (handed is t) = no_launch j.row.launch k.launch launch (ap (λ (s : Row). s.launch) t.left) launched

    by : CameOf h g.next_snapshot c n (instance h n) j.row → ⊥
    by (changed i at x) = put_by i at x
    by (began none is new) = no_launch j.row.launch k.launch launch (ap (λ (s : Row). s.launch) new) launched
    by (booted i own at is new) = v.no_boot is

awaited_later : (y z : History) (h : Holdings) (c : Command) (g : Holdings) (ms : List Message) (B : ℕ → ℕ → Type 0)
    (k : Knowledge) (n : ℕ) (r : Row) (p : Proposal) (after : After)
    → IsCommanded h c g ms B → Grew y z → 1 ≤ k.launch → IsAwaited y h ms B k n r p after
    → IsAwaited z g ms B k n r p after
awaited_later y z h c g ms B k n r p after v grew launched a =
    record {
      mine = a.mine;
      at = a.at;
      number = a.number;
      serial = a.serial;
      said = a.said;
      greatest = a.greatest;
      plan = planned_later y z n r p.step after grew a.plan;
      unspent = unspent_later y h c g ms B k n r p after v launched a;
    }

-- ---- what is owed

no_rest : (o : Option State) (s : State) → o ≡ None → o ≡ Some s → ⊥
no_rest o s e f = cc

-- a row under which a method runs leads somewhere
pub leads_on : (m : Method) (r : Row) → IsUnder m r → (s : State) × (r.next ≡ Some s)
leads_on methods.Start r u = (_, u.next)
leads_on methods.Stop r u = (_, u.next)
leads_on methods.Refresh r u = (_, u.next)

no_instance : (o : Option Instance) (i : Instance) → o ≡ None → o ≡ Some i → ⊥
no_instance o i e f = cc

owes_no_wait : (i j : KnownInstance) (o : Owed) (p : Proposal) (after : After) → Some i ≡ Some j
    → i.phase ≡ phases.Owes o → j.phase ≡ phases.Waiting p after → ⊥
owes_no_wait i j o p after e f g =
    let same : phases.Owes o ≡ phases.Waiting p after =
    sym f ∙ (ap (λ (x : KnownInstance). x.phase) (some_same i j e) ∙ g) in
    cc

owing_later : (y z : History) (h : Holdings) (c : Command) (g : Holdings) (ms : List Message) (B : ℕ → ℕ → Type 0)
    (k : Knowledge) (n : ℕ) (i : KnownInstance) (o : Owed)
    → IsCommanded h c g ms B → Grew y z → IsInformed y h ms B k → known_instance k n ≡ Some i
    → i.phase ≡ phases.Owes o → WasRow h n i.row → IsOwing y h B k n i.row o → IsOwing z g B k n i.row o
owing_later y z h c g ms B k n i o v grew f at ph was a = by (v.moves.rows n)
  where
    low : 1 ≤ a.of.row.number
    low = has_number h n a.of k.launch v.fit a.there a.launch f.launched

    leads : (s : State) × (i.row.next ≡ Some s)
    leads = leads_on o.method i.row a.under

    next_is : a.of.row.next ≡ i.row.next
    next_is = ap (λ (x : Row). x.next) ((was.before a.of a.there).same (sym a.number)).same

    restless : a.of.row.next ≡ None → ⊥
    restless e = no_rest a.of.row.next leads.0 e (next_is ∙ leads.1)

    put_by : (x j : Instance) → instance h n ≡ Some x → instance g n ≡ Some j → x ≡ a.of
        → RowPut h g.next_snapshot c n x.row j.row → IsOwing z g B k n i.row o
    put_by x j was_there there same (quiet q) =
        let s : Stays a.of.row j.row = subst (λ (e : Instance). Stays e.row j.row) same q.stays in
        record {
          of = j;
          there = there;
          owner = same_owner a.of.row j.row s low ∙ a.owner;
          number = stays_number a.of.row j.row s ∙ a.number;
          launch = ap (λ (r : Row). r.launch) s.same ∙ a.launch;
          under = a.under;
          run = a.run;
          fresh = a.fresh;
          begins = owed_later y z o.method n i.row o grew a.begins;
        }
    put_by x j was_there there same (granted q is of_n t) =
        let t_of : IsGrant h g.next_snapshot q a.of.row j.row =
        subst (λ (e : Instance). IsGrant h g.next_snapshot q e.row j.row) same t in
        let w = (granted_awaited y h g.next_snapshot ms B k n q a.of j.row
        (v.askable q is) of_n t_of a.there a.owner low f).1 in
        absurd (owes_no_wait i w.of o q w.after
        (sym at ∙ subst (λ (m : ℕ). known_instance k m ≡ Some w.of) of_n w.is_known) ph w.phase)
    put_by x j was_there there same (handed is t) =
        absurd (restless (ap (λ (e : Instance). e.row.next) (sym same) ∙ t.rest.next))

    by : RowMoves h g.next_snapshot c n (instance h n) (instance g n) → IsOwing z g B k n i.row o
    by (absent none gone) = absurd (no_instance (instance h n) a.of none a.there)
    by (goes x j e d p) = put_by x j e d (some_same x a.of (sym e ∙ a.there)) p
    by (joins j none d new fresh) = absurd (no_instance (instance h n) a.of none a.there)
    by (leaves x e gone is rest) =
        absurd (restless (ap (λ (z : Instance). z.row.next) (sym (some_same x a.of (sym e ∙ a.there))) ∙ rest.next))
    by (boots x j own e d is new) = absurd (v.no_boot is)

phase_later : (y z : History) (h : Holdings) (c : Command) (g : Holdings) (ms : List Message) (B : ℕ → ℕ → Type 0)
    (k : Knowledge) (n : ℕ) (i : KnownInstance) (x : Phase)
    → IsCommanded h c g ms B → Grew y z → IsInformed y h ms B k → known_instance k n ≡ Some i → i.phase ≡ x
    → WasRow h n i.row → IsInPhase y h ms B k n i.row x → IsInPhase z g ms B k n i.row x
phase_later y z h c g ms B k n i phases.Idle v grew f at ph was a = tt
phase_later y z h c g ms B k n i (phases.Waiting p after) v grew f at ph was a =
    awaited_later y z h c g ms B k n i.row p after v grew f.launched a
phase_later y z h c g ms B k n i (phases.Owes o) v grew f at ph was a =
    owing_later y z h c g ms B k n i o v grew f at ph was a
phase_later y z h c g ms B k n i (phases.Running m) v grew f at ph was a = a
phase_later y z h c g ms B k n i (phases.Ending e) v grew f at ph was a = a

-- ---- answers

-- a row that a method's step left leads somewhere
left_leads : (s : Step) (r : Row) → is_begun s ≡ true → IsLeft s r → (t : State) × (r.next ≡ Some t)
left_leads (Start run snapshot duration ignore revision) r e l = (_, l.next)
left_leads (Stop to cause run) r e l = (_, l.next)
left_leads (Refresh run) r e l = (_, l.next)
left_leads (Move to) r e l = absurd cc
left_leads (End to keep failed cause) r e l = absurd cc
left_leads (Note bits keep) r e l = absurd cc

waits_same : (i j : KnownInstance) (p q : Proposal) (a b : After) → Some i ≡ Some j → i.phase ≡ phases.Waiting p a
    → j.phase ≡ phases.Waiting q b → p ≡ q
waits_same i j p q a b e f g =
    let same : phases.Waiting p a ≡ phases.Waiting q b =
    sym f ∙ (ap (λ (x : KnownInstance). x.phase) (some_same i j e) ∙ g) in
    cc

again_by : (r : Row) (q : Proposal) → r.owner ≡ q.proposer → r.launch ≡ q.launch → r.serial ≡ q.serial
    → is_again r q ≡ true
again_by r q a b d =
    rw ((same_text r.owner q.proposer).1 a, is_same r.launch q.launch b, is_same r.serial q.serial d) refl
  where
    is_same : (m n : ℕ) → m ≡ n → (m == n) ≡ true
    is_same m n e = grind (arith, nat_tests)

not_both : (b : Bool) → b ≡ true → b ≡ false → ⊥
not_both b e f = cc

still_later : (y : History) (h : Holdings) (c : Command) (g : Holdings) (ms : List Message) (B : ℕ → ℕ → Type 0)
    (k : Knowledge) (n : ℕ) (i : KnownInstance) (p : Proposal) (after : After)
    → IsCommanded h c g ms B → IsInformed y h ms B k → known_instance k n ≡ Some i → i.phase ≡ phases.Waiting p after
    → IsAwaited y h ms B k n i.row p after → is_begun p.step ≡ true → IsStill h k n p.serial
    → IsStill g k n p.serial
still_later y h c g ms B k n i p after v f at ph a begun s = by (v.moves.rows n)
  where
    low : 1 ≤ s.of.row.number
    low = has_number h n s.of k.launch v.fit s.there s.launch f.launched

    grant : WasGranted ms n s.of.row
    grant = (v.explained n s.of s.there).granted (subst (λ (x : ℕ). 1 ≤ x) (sym s.launch) f.launched)

    by_p : grant.by ≡ p
    by_p = v.said.once grant.by p grant.said a.said (grant.proposer ∙ (s.owner ∙ sym a.mine.proposer))
        (grant.launch ∙ (s.launch ∙ sym a.mine.launch)) (grant.serial ∙ s.serial_is)

    leads : (t : State) × (s.of.row.next ≡ Some t)
    leads = left_leads p.step s.of.row begun (subst (λ (q : Proposal). IsLeft q.step s.of.row) by_p grant.left)

    restless : s.of.row.next ≡ None → ⊥
    restless e = no_rest s.of.row.next leads.0 e leads.1

    granted_anew : (q : Proposal) (j : Row) → WasProposed q ms → q.instance ≡ n
        → IsGrant h g.next_snapshot q s.of.row j → ⊥
    granted_anew q j w of_n t =
        let x = granted_awaited y h g.next_snapshot ms B k n q s.of j w of_n t s.there s.owner low f in
        let same : p ≡ q =
        waits_same i x.1.of p q after x.1.after
        (sym at ∙ subst (λ (m : ℕ). known_instance k m ≡ Some x.1.of) of_n x.1.is_known) ph x.1.phase in
        let launch : t.read.launch ≡ q.launch = ap (λ (r : Row). r.launch) t.reads.same ∙ (s.launch ∙ sym x.0.launch) in
        let serial : t.read.serial ≡ q.serial = ap (λ (r : Row). r.serial) t.reads.same
        ∙ (s.serial_is ∙ ap (λ (z : Proposal). z.serial) same) in
        not_both (is_again t.read q) (again_by t.read q t.owner launch serial) t.new

    put_by : (x j : Instance) → instance g n ≡ Some j → x ≡ s.of → RowPut h g.next_snapshot c n x.row j.row
        → IsStill g k n p.serial
    put_by x j there same (quiet q) =
        let t : Stays s.of.row j.row = subst (λ (e : Instance). Stays e.row j.row) same q.stays in
        record {
          of = j;
          there = there;
          owner = same_owner s.of.row j.row t low ∙ s.owner;
          launch = ap (λ (r : Row). r.launch) t.same ∙ s.launch;
          serial_is = ap (λ (r : Row). r.serial) t.same ∙ s.serial_is;
        }
    put_by x j there same (granted q is of_n t) =
        absurd (granted_anew q j.row (v.askable q is) of_n
        (subst (λ (e : Instance). IsGrant h g.next_snapshot q e.row j.row) same t))
    put_by x j there same (handed is t) = absurd (restless (ap (λ (e : Instance). e.row.next) (sym same) ∙ t.rest.next))

    by : RowMoves h g.next_snapshot c n (instance h n) (instance g n) → IsStill g k n p.serial
    by (absent none gone) = absurd (no_instance (instance h n) s.of none s.there)
    by (goes x j e d q) = put_by x j d (some_same x s.of (sym e ∙ s.there)) q
    by (joins j none d new fresh) = absurd (no_instance (instance h n) s.of none s.there)
    by (leaves x e gone is rest) =
        absurd (restless (ap (λ (z : Instance). z.row.next) (sym (some_same x s.of (sym e ∙ s.there))) ∙ rest.next))
    by (boots x j own e d is new) = absurd (v.no_boot is)

-- ---- the whole

pub waiting_at : (y : History) (h : Holdings) (ms : List Message) (B : ℕ → ℕ → Type 0) (k : Knowledge) (n : ℕ)
    (i : KnownInstance) (p : Proposal) (after : After) → IsInformed y h ms B k → known_instance k n ≡ Some i
    → i.phase ≡ phases.Waiting p after
    → IsAwaited y h ms B k n i.row p after
waiting_at y h ms B k n i p after f e ph = subst (IsInPhase y h ms B k n i.row) ph (f.each n i e).phase

pub informed_later : (y z : History) (h : Holdings) (c : Command) (g : Holdings) (ms : List Message)
    (B : ℕ → ℕ → Type 0) (k : Knowledge) → IsCommanded h c g ms B → Grew y z → launch_of g k.name ≡ launch_of h k.name
    → IsInformed y h ms B k → IsInformed z g ms B k
informed_later y z h c g ms B k v grew launches f =
    record {
      launch = f.launch ∙ sym launches;
      launched = f.launched;
      rises = f.rises;
      blank = f.blank;
      unserved = f.unserved;
      idle = f.idle;
      serial = f.serial;
      each = λ n i e.
          let a = f.each n i e in
          record {
            was = was_later h c g n i.row v.fit v.moves a.was;
            owner = a.owner;
            phase = phase_later y z h c g ms B k n i i.phase v grew f e refl a.was a.phase;
          };
      dead = λ q w is. dead_by q w (f.dead q w is);
      acks = λ serial n r p after i w e ph t b.
          subst (IsStill g k n) t
          (still_later y h c g ms B k n i p after v f e ph (waiting_at y h ms B k n i p after f e ph) b
          (subst (IsStill h k n) (sym t) (f.acks serial n r p after i w e ph t b)));
      nacks = λ serial n why o p after i w e ph t.
          let x = f.nacks serial n why o p after i w e ph t in
          record {
            dead = dead_for_later y h c g ms B k p v (waiting_at y h ms B k n i p after f e ph).said x.dead;
            row = x.row;
          };
    }
  where
    dead_by : (q : Proposal) → WasProposed q ms → IsDeadFor h k q ⊎ IsAwaitedBy k q → IsDeadFor g k q ⊎ IsAwaitedBy k q
    dead_by q w (inl d) = inl (dead_for_later y h c g ms B k q v w d)
    dead_by q w (inr a) = inr a

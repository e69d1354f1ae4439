-- Each step of a restarter keeps what holds of what it knows, and of what others know.
use Rattle.std.proofs.Common.{◌≡◌, ◌⊎◌, inl, inr, ℕ, List, [], ◌∷◌, ◌++◌, reverse, Option, None, refl, sym, ◌∙◌, subst}
use Rattle.smf_contract.specs.declared.cookie.Method.{Method}
use Rattle.smf_contract.specs.declared.cookie.Method.TheVariants as methods
use Rattle.smf_state.specs.declared.row.Row.{Row}
use Rattle.smf_state.specs.declared.state.State.TheVariants.{Online}
use Rattle.smf_state.specs.declared.step.Proposal.{Proposal}
use Rattle.smf_state.specs.declared.state.Duration.{Duration}
use Rattle.smf_state.specs.declared.state.Duration.TheVariants.{Contract, Transient, Child}
use Rattle.smf_state.specs.declared.refusal.Why.{Why}
use Rattle.smf_model.specs.History.{History}
use Rattle.smf_model.specs.Contents.{Holdings}
use Rattle.smf_wire.specs.declared.message.Message.{Message}
use Rattle.smf_wire.specs.declared.message.Message.TheVariants as messages
use Rattle.smf_restarter.specs.declared.known.Ending.{Ending}
use Rattle.smf_restarter.specs.declared.known.KnownInstance.{KnownInstance}
use Rattle.smf_restarter.specs.declared.known.Owed.{Owed}
use Rattle.smf_restarter.specs.declared.known.Phase.TheVariants as phases
use Rattle.smf_restarter.specs.declared.known.RunningMethod.{RunningMethod}
use Rattle.smf_restarter.specs.declared.reply.Begun.{Begun}
use Rattle.smf_restarter.specs.declared.reply.Course.TheVariants as courses
use Rattle.smf_restarter.specs.Changes.{knowledge_after}
use Rattle.smf_restarter.specs.Answers.{running_method, started_as}
use Rattle.smf_restarter.specs.Ends.{ended_refresh, start_succeeded, end_on_success}
use Rattle.smf_restarter.specs.Knowledge.{Knowledge}
use Rattle.smf_restarter.specs.Ticks.{begun_of}
use Rattle.smf_world.proofs.RowClauses.{AreExplained, WasProposed, WasSaid}
use Rattle.smf_safety.proofs.SaidClauses.{AreSaid}
use Rattle.smf_safety.proofs.KnowClauses.{IsAckOf, IsEndOf, IsInPhase, IsInformed, IsMine, IsNackOf, IsOwing, IsStarting, IsUnder}
use Rattle.smf_safety.proofs.KnowSteps.{Does, Doing, IsAt, IsOn, builds, forgets, granted, joins, learns, lists, proposes, refused, repeats, rests, spawns, turns}
use Rattle.smf_safety.proofs.KnowDone.{WasTold, awaited_at, informed_granted, no_start, refreshing_ends}
use Rattle.smf_safety.proofs.KnowTurned.{IsBusy, informed_forgets, informed_refused, informed_turned}
use Rattle.smf_safety.proofs.KnowStaged.{informed_alike, informed_learns, informed_lists, with_runs}
use Rattle.smf_safety.proofs.KnowProposed.{informed_proposes, proposable}
use Rattle.smf_safety.proofs.KnowKept.{IsElsewhere, informed_elsewhere}

-- ---- ends

online_ends : (e : Ending) (r : Row) → IsStarting r → e.to ≡ Online → IsEndOf e r
online_ends e r s to = record { start = λ t. inl to; stop = λ t. absurd (no_start r.state t.state s.state) }

-- the success of a method leads to an end of it
pub succeeded_ends : (r : Row) (m : Method) → IsUnder m r → IsEndOf (end_on_success r m) r
succeeded_ends r methods.Start u = online_ends start_succeeded r u refl
succeeded_ends r methods.Stop u = record { start = λ s. inr refl; stop = λ s. refl }
succeeded_ends r methods.Refresh u = refreshing_ends (ended_refresh r) r u

runs_on : (o : Owed) (m : Method) (r : Row) → m ≡ o.method → IsUnder m r → IsOn (courses.Running (running_method o)) r
runs_on o m r e u = subst (λ (x : Method). IsUnder x r) e u

pub started_on : (o : Owed) (d : Duration) (m : Method) (r : Row) → m ≡ o.method → IsUnder m r
    → IsOn (started_as o d m) r
started_on o Child methods.Start r e u = online_ends start_succeeded r u refl
started_on o Child methods.Stop r e u = runs_on o methods.Stop r e u
started_on o Child methods.Refresh r e u = runs_on o methods.Refresh r e u
started_on o Contract m r e u = runs_on o m r e u
started_on o Transient m r e u = runs_on o m r e u

-- ---- what is under way

owes_busy : (k : Knowledge) (i : KnownInstance) (o : Owed) → IsAt k i → i.phase ≡ phases.Owes o → IsBusy k i
owes_busy k i o at ph =
    record {
      at = at;
      active = λ e. absurd (let g : phases.Owes o ≡ phases.Idle = sym ph ∙ e in cc);
      steady = λ p after e. absurd (let g : phases.Owes o ≡ phases.Waiting p after = sym ph ∙ e in cc);
    }

runs_busy : (k : Knowledge) (i : KnownInstance) (m : RunningMethod) → IsAt k i → i.phase ≡ phases.Running m → IsBusy k i
runs_busy k i m at ph =
    record {
      at = at;
      active = λ e. absurd (let g : phases.Running m ≡ phases.Idle = sym ph ∙ e in cc);
      steady = λ p after e. absurd (let g : phases.Running m ≡ phases.Waiting p after = sym ph ∙ e in cc);
    }

pub owing_at : (y : History) (h : Holdings) (ms : List Message) (B : ℕ → ℕ → Type 0) (k : Knowledge)
    (i : KnownInstance) (o : Owed) → IsInformed y h ms B k → IsAt k i → i.phase ≡ phases.Owes o
    → IsOwing y h B k i.instance i.row o
owing_at y h ms B k i o f at e = subst (IsInPhase y h ms B k i.instance i.row) e (f.each i.instance i at.is_known).phase

pub running_at : (y : History) (h : Holdings) (ms : List Message) (B : ℕ → ℕ → Type 0) (k : Knowledge)
    (i : KnownInstance) (m : RunningMethod) → IsInformed y h ms B k → IsAt k i → i.phase ≡ phases.Running m
    → IsUnder m.method i.row
running_at y h ms B k i m f at e =
    subst (IsInPhase y h ms B k i.instance i.row) e (f.each i.instance i at.is_known).phase

-- ---- what is said again, or speaks of no proposal

-- no proposal and no answer to one
abbrev pub IsAside : Message → Type 0
IsAside (messages.Propose p) = ⊥
IsAside (messages.Ack name launch serial n row) = ⊥
IsAside (messages.Nack name launch serial n why row) = ⊥
IsAside _ = Unit {0}

aside_no : (m x : Message) → IsAside m → (IsAside x → ⊥) → m ≡ x → ⊥
aside_no m x a apart e = apart (subst IsAside e a)

pub elsewhere_aside : (ms : List Message) (m : Message) (k : Knowledge) → IsAside m → IsElsewhere ms (m ∷ ms) k
elsewhere_aside ms m k a =
    record {
      said = λ q w. inr w;
      mine = λ q w is. by (messages.Propose q) (λ x. x) w;
      acks = λ serial n r w. by (messages.Ack k.name k.launch serial n r) (λ x. x) w;
      nacks = λ serial n why r w. by (messages.Nack k.name k.launch serial n why r) (λ x. x) w;
    }
  where
    by : (x : Message) → (IsAside x → ⊥) → (m ≡ x) ⊎ WasSaid x ms → WasSaid x ms
    by x apart (inl e) = absurd (aside_no m x a apart e)
    by x apart (inr w) = w

one_proposal : (p q : Proposal) → messages.Propose p ≡ messages.Propose q → p ≡ q
one_proposal p q e = cc

-- a proposal that is another's, or was said before
pub elsewhere_proposed : (ms : List Message) (p : Proposal) (k : Knowledge) → (IsMine k p → WasProposed p ms)
    → IsElsewhere ms (messages.Propose p ∷ ms) k
elsewhere_proposed ms p k was =
    record {
      said = λ q w. inr w;
      mine = λ q w is. mine_by q is w;
      acks = λ serial n r w. ack_by serial n r w;
      nacks = λ serial n why r w. nack_by serial n why r w;
    }
  where
    mine_by : (q : Proposal) → IsMine k q → (messages.Propose p ≡ messages.Propose q) ⊎ WasProposed q ms
        → WasProposed q ms
    mine_by q is (inl e) =
        let same : p ≡ q = one_proposal p q e in
        subst (λ (z : Proposal). WasProposed z ms) same (was (subst (IsMine k) (sym same) is))
    mine_by q is (inr w) = w

    ack_by : (serial n : ℕ) (r : Row) → IsAckOf k serial n r (messages.Propose p ∷ ms) → IsAckOf k serial n r ms
    ack_by serial n r (inl e) = absurd (let g : messages.Propose p ≡ messages.Ack k.name k.launch serial n r = e in cc)
    ack_by serial n r (inr w) = w

    nack_by : (serial n : ℕ) (why : Why) (r : Option Row) → IsNackOf k serial n why r (messages.Propose p ∷ ms)
        → IsNackOf k serial n why r ms
    nack_by serial n why r (inl e) =
        absurd (let g : messages.Propose p ≡ messages.Nack k.name k.launch serial n why r = e in cc)
    nack_by serial n why r (inr w) = w

pub elsewhere_same : (ms : List Message) (k : Knowledge) → IsElsewhere ms ms k
elsewhere_same ms k =
    record { said = λ q w. w; mine = λ q w is. w; acks = λ serial n r w. w; nacks = λ serial n why r w. w }

-- ---- one step

abbrev pub IsBegunIn : ℕ → ℕ → List Begun → Type 0
IsBegunIn n run [] = ⊥
IsBegunIn n run (b ∷ bs) = ((b.instance ≡ n) × (b.run ≡ run)) ⊎ IsBegunIn n run bs

-- each run that was begun after a step was begun before it, or by it
abbrev pub BegunBy : (ℕ → ℕ → Type 0) → List Begun → (ℕ → ℕ → Type 0) → Type 0
BegunBy B bs C = (n run : ℕ) → C n run → B n run ⊎ IsBegunIn n run bs

none_begun : (B C : ℕ → ℕ → Type 0) → BegunBy B [] C → (n run : ℕ) → C n run → B n run
none_begun B C c n run b = by (c n run b)
  where
    by : B n run ⊎ ⊥ → B n run
    by (inl x) = x
    by (inr x) = absurd x

one_begun : (B C : ℕ → ℕ → Type 0) (x : Begun) → BegunBy B (x ∷ []) C → (n run : ℕ) → C n run
    → B n run ⊎ (n ≡ x.instance)
one_begun B C x c n run b = by (c n run b)
  where
    by : B n run ⊎ (((x.instance ≡ n) × (x.run ≡ run)) ⊎ ⊥) → B n run ⊎ (n ≡ x.instance)
    by (inl z) = inl z
    by (inr (inl z)) = inr (sym z.0)
    by (inr (inr z)) = absurd z

abbrev Behind : History → Holdings → List Message → (ℕ → ℕ → Type 0) → Knowledge → Doing → Type 0
Behind y h ms C k d = IsInformed y h (reverse d.said ++ ms) C (knowledge_after k d.change)

begun_is : (d e : Doing) (B C : ℕ → ℕ → Type 0) → d ≡ e → BegunBy B d.begun C → BegunBy B e.begun C
begun_is d e B C same c = subst (λ (x : Doing). BegunBy B x.begun C) same c

pub informed_does : (y : History) (h : Holdings) (ms : List Message) (B C : ℕ → ℕ → Type 0) (k : Knowledge) (d : Doing)
    → AreSaid h ms → AreExplained h ms → BegunBy B d.begun C → Does k (WasTold y h ms k) d → IsInformed y h ms B k
    → IsInformed y h (reverse d.said ++ ms) C (knowledge_after k d.change)
informed_does y h ms B C k d said explained begun does f = by does
  where
    fewer : ((n run : ℕ) → C n run → B n run) → IsInformed y h ms C k
    fewer c = informed_elsewhere y h ms ms B C k (elsewhere_same ms k) (λ n run of there owner b. c n run b) f

    made_as : (e : Doing) → d ≡ e → Behind y h ms C k e → Behind y h ms C k d
    made_as e same b = subst (Behind y h ms C k) (sym same) b

    none : (e : Doing) → d ≡ e → e.begun ≡ [] → IsInformed y h ms C k
    none e same empty =
        fewer (none_begun B C (subst (λ (bs : List Begun). BegunBy B bs C) empty (begun_is d e B C same begun)))

    turn_by : (i : KnownInstance) (method : Method) (e : Ending) → IsAt k i
        → ((o : Owed) × (i.phase ≡ phases.Owes o) × (o.method ≡ method))
        ⊎ ((m : RunningMethod) × (i.phase ≡ phases.Running m) × (m.method ≡ method))
        → IsBusy k i × IsUnder method i.row
    turn_by i method e at (inl x) = (
      owes_busy k i x.0 at x.1,
      subst (λ (m : Method). IsUnder m i.row) x.2 (owing_at y h ms B k i x.0 f at x.1).under,
    )
    turn_by i method e at (inr x) =
        (runs_busy k i x.0 at x.1, subst (λ (m : Method). IsUnder m i.row) x.2 (running_at y h ms B k i x.0 f at x.1))

    by : Does k (WasTold y h ms k) d → Behind y h ms C k d
    by (rests run call e) = made_as _ e (informed_alike y h ms C k _ (with_runs k run) (none _ e refl))
    by (joins stage e) =
        made_as _ e (informed_alike y h _ C k _ (with_runs k None)
        (informed_elsewhere y h ms (messages.Join k.name k.launch ∷ ms) C C k
        (elsewhere_aside ms (messages.Join k.name k.launch) k tt) (λ n run of there owner b. b) (none _ e refl)))
    by (repeats i p after at ph e) =
        made_as _ e (informed_alike y h _ C k _ (with_runs k None)
        (informed_elsewhere y h ms (messages.Propose p ∷ ms) C C k
        (elsewhere_proposed ms p k (λ is. (awaited_at y h ms B k i p after f at ph).said))
        (λ n run of there owner b. b) (none _ e refl)))
    by (proposes i step after stage why e) =
        made_as _ e (informed_proposes y h ms C k i step after said explained stage
        (proposable y h ms B k i step after said f why) (none _ e refl))
    by (granted i p after name row at ph t e) =
        made_as _ e (informed_granted y h ms C k i p after name row _ said explained at ph t.said t.to (none _ e refl))
    by (refused i p after name why row at ph t apart e) =
        made_as _ e (informed_refused y h ms C k i p after name why row said at ph t.said apart t.to (none _ e refl))
    by (forgets i p after name why row at ph t reason e) =
        made_as _ e (informed_forgets y h ms C k i p after name why row said at ph t.said t.to (none _ e refl))
    by (learns name rows stage t e) =
        made_as _ e (informed_learns y h ms C k name rows said stage t.said t.to (none _ e refl))
    by (lists ss stage e) = made_as _ e (informed_lists y h ms C k _ stage (none _ e refl))
    by (spawns i o c cookie at ph packs e) =
        made_as _ e (informed_turned y h ms B C k i (started_as o i.row.duration o.method) _ said
        (one_begun B C (begun_of i o) (begun_is d _ B C e begun)) (owes_busy k i o at ph)
        (started_on o i.row.duration o.method i.row refl (owing_at y h ms B k i o f at ph).under) f)
    by (builds i o call at ph e) =
        made_as _ e (informed_turned y h ms B C k i (courses.Ending (end_on_success i.row o.method)) None said
        (one_begun B C (begun_of i o) (begun_is d _ B C e begun)) (owes_busy k i o at ph)
        (succeeded_ends i.row o.method (owing_at y h ms B k i o f at ph).under) f)
    by (turns i method x run call at active is_end e) =
        let t = turn_by i method x at active in
        made_as _ e (informed_turned y h ms B C k i (courses.Ending x) run said
        (λ n r b. inl (none_begun B C (begun_is d _ B C e begun) n r b)) t.0 (is_end t.1) f)

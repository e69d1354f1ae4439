-- Refusals, courses and what is begun keep what holds of what a restarter knows.
use Rattle.std.proofs.Common.{◌≡◌, ◌⊎◌, inl, ℕ, List, Option, Some, None, refl, sym, ap, ◌∙◌, subst}
use Rattle.smf_fmri.specs.ByKey.{Rises}
use Rattle.smf_fmri.proofs.KeyOrder.{rises_amend, rises_without}
use Rattle.smf_state.specs.declared.row.Row.{Row}
use Rattle.smf_state.specs.declared.step.Proposal.{Proposal}
use Rattle.smf_state.specs.declared.refusal.Why.{Why}
use Rattle.smf_state.specs.declared.refusal.Why.TheVariants as whys
use Rattle.smf_model.specs.History.{History}
use Rattle.smf_model.specs.Contents.{Holdings}
use Rattle.smf_wire.specs.declared.message.Message.{Message}
use Rattle.smf_wire.specs.declared.message.Message.TheVariants as messages
use Rattle.smf_restarter.specs.declared.known.After.{After}
use Rattle.smf_restarter.specs.declared.known.KnownInstance.{KnownInstance}
use Rattle.smf_restarter.specs.declared.known.KnownRun.{KnownRun}
use Rattle.smf_restarter.specs.declared.known.Phase.TheVariants as phases
use Rattle.smf_restarter.specs.declared.reply.KnowledgeChange.{KnowledgeChange}
use Rattle.smf_restarter.specs.declared.reply.Course.{Course}
use Rattle.smf_restarter.specs.declared.reply.Course.TheVariants as courses
use Rattle.smf_restarter.specs.Changes.{knowledge_after, change_to_forget, on_course, phase_on, change_of_instance, change_of_course}
use Rattle.smf_restarter.specs.Knowledge.{Knowledge, by_instance}
use Rattle.smf_world.proofs.RowClauses.{WasSaid}
use Rattle.smf_safety.proofs.SaidClauses.{AreSaid, IsNack, IsSaid}
use Rattle.smf_safety.proofs.KnowClauses.{IsAwaited, IsDeadFor, IsInPhase, IsInformed, IsKnown, IsNackOf, IsRefusal}
use Rattle.smf_safety.proofs.KnowSteps.{IsAt, IsOn}
use Rattle.smf_safety.proofs.KnowDone.{awaited_at, forgotten_at, one_awaited, phase_known, put_at, put_rises, quiet_changed, some_one, turned_at, up_by, waits_not_idle, with_run}
use Rattle.smf_safety.proofs.KnowKept.{said_is}

-- ---- refusals

-- a nack of the awaited proposal is a refusal of it
the_nack : (y : History) (h : Holdings) (ms : List Message) (B : ℕ → ℕ → Type 0) (k : Knowledge) (i : KnownInstance)
    (p : Proposal) (after : After) (name : List ℕ) (why : Why) (o : Option Row)
    → IsAt k i → i.phase ≡ phases.Waiting p after → WasSaid (messages.Nack name p.launch p.serial i.instance why o) ms
    → name ≡ k.name → IsInformed y h ms B k → IsRefusal h k p why o
the_nack y h ms B k i p after name why o at ph w to f =
    let a : IsAwaited y h ms B k i.instance i.row p after = awaited_at y h ms B k i p after f at ph in
    let of_k : IsNackOf k p.serial i.instance why o ms =
    subst (λ (x : ℕ). WasSaid (messages.Nack k.name x p.serial i.instance why o) ms) a.mine.launch
    (subst (λ (x : List ℕ). WasSaid (messages.Nack x p.launch p.serial i.instance why o) ms) to w) in
    f.nacks p.serial i.instance why o p after i of_k at.is_known ph refl

idle_no_wait : (i : KnownInstance) (p : Proposal) (b : After) → i.phase ≡ phases.Idle → i.phase ≡ phases.Waiting p b → ⊥
idle_no_wait i p b e f = let g : phases.Idle ≡ phases.Waiting p b = sym e ∙ f in cc

pub informed_refused : (y : History) (h : Holdings) (ms : List Message) (B : ℕ → ℕ → Type 0) (k : Knowledge)
    (i : KnownInstance) (p : Proposal) (after : After) (name : List ℕ) (why : Why) (row : Row)
    → AreSaid h ms → IsAt k i → i.phase ≡ phases.Waiting p after
    → WasSaid (messages.Nack name p.launch p.serial i.instance why (Some row)) ms → (why ≡ whys.Owner → ⊥)
    → name ≡ k.name → IsInformed y h ms B k
    → IsInformed y h ms B (knowledge_after k (change_of_instance (record i { row = row; phase = phases.Idle })))
informed_refused y h ms B k i p after name why row said at ph w apart to f =
    quiet_changed y h ms B B k (change_of_instance j) i.instance (Some j) said
    (record {
      serial = refl;
      stage = refl;
      up = up_by y h ms B k i f at (waits_not_idle i p after ph);
      rises = put_rises k j None f.rises;
      at = put_at k j None;
      begun = λ m x b. inl b;
      is_known = λ g e. subst (IsKnown y h ms B (knowledge_after k (change_of_instance j)) i.instance)
          (some_one j g e) known_now;
      never = λ g q b e x. idle_no_wait g q b (ap (λ (z : KnownInstance). z.phase) (sym (some_one j g e))) x;
      dropped = λ g q b e x. subst (IsDeadFor h k) (one_awaited k i g p q after b at ph e x) r.dead;
    }) f
  where
    j : KnownInstance
    j = record i { row = row; phase = phases.Idle }

    r : IsRefusal h k p why (Some row)
    r = the_nack y h ms B k i p after name why (Some row) at ph w to f

    b : IsNack h ms name p.launch p.serial i.instance why (Some row)
    b = said_is (IsSaid h ms) (messages.Nack name p.launch p.serial i.instance why (Some row)) ms said.each w

    known_now : IsKnown y h ms B (knowledge_after k (change_of_instance j)) i.instance j
    known_now = phase_known y h ms B k (change_of_instance j) i.instance j refl
        (record { was = b.was; owner = r.row row refl apart; phase = tt })

without_rises : (k : Knowledge) (n : ℕ) → Rises by_instance k.instances
    → Rises by_instance (knowledge_after k (change_to_forget n)).instances
unfolding knowledge_after
without_rises k n r = rises_without by_instance n k.instances r

pub informed_forgets : (y : History) (h : Holdings) (ms : List Message) (B : ℕ → ℕ → Type 0) (k : Knowledge)
    (i : KnownInstance) (p : Proposal) (after : After) (name : List ℕ) (why : Why) (o : Option Row)
    → AreSaid h ms → IsAt k i → i.phase ≡ phases.Waiting p after
    → WasSaid (messages.Nack name p.launch p.serial i.instance why o) ms → name ≡ k.name → IsInformed y h ms B k
    → IsInformed y h ms B (knowledge_after k (change_to_forget i.instance))
informed_forgets y h ms B k i p after name why o said at ph w to f =
    quiet_changed y h ms B B k (change_to_forget i.instance) i.instance None said
    (record {
      serial = refl;
      stage = refl;
      up = up_by y h ms B k i f at (waits_not_idle i p after ph);
      rises = without_rises k i.instance f.rises;
      at = forgotten_at k i.instance;
      begun = λ m x b. inl b;
      is_known = λ g e. absurd (cc);
      never = λ g q b e x. absurd (cc);
      dropped = λ g q b e x. subst (IsDeadFor h k) (one_awaited k i g p q after b at ph e x)
          (the_nack y h ms B k i p after name why o at ph w to f).dead;
    }) f

-- ---- courses

amend_rises : (k : Knowledge) (n : ℕ) (course : Course) (run : Option KnownRun) → Rises by_instance k.instances
    → Rises by_instance (knowledge_after k (with_run (change_of_course n course) run)).instances
unfolding knowledge_after
amend_rises k n course run r = rises_amend by_instance n (on_course course) k.instances (λ x. refl) r

on_no_wait : (course : Course) (p : Proposal) (b : After) → phase_on course ≡ phases.Waiting p b → ⊥
on_no_wait (courses.Running m) p b e = absurd cc
on_no_wait (courses.Ending x) p b e = absurd cc

on_phase : (y : History) (h : Holdings) (ms : List Message) (C : ℕ → ℕ → Type 0) (k : Knowledge) (n : ℕ) (r : Row)
    (course : Course) → IsOn course r → IsInPhase y h ms C k n r (phase_on course)
on_phase y h ms C k n r (courses.Running m) a = a
on_phase y h ms C k n r (courses.Ending e) a = a

-- an instance with which a method is under way
pub record IsBusy (k : Knowledge) (i : KnownInstance) : Type 0 where
  pub at : IsAt k i
  pub active : i.phase ≡ phases.Idle → ⊥
  pub steady : (p : Proposal) (after : After) → i.phase ≡ phases.Waiting p after → ⊥

pub informed_turned : (y : History) (h : Holdings) (ms : List Message) (B C : ℕ → ℕ → Type 0) (k : Knowledge)
    (i : KnownInstance) (course : Course) (run : Option KnownRun)
    → AreSaid h ms → ((j r : ℕ) → C j r → B j r ⊎ (j ≡ i.instance)) → IsBusy k i → IsOn course i.row
    → IsInformed y h ms B k
    → IsInformed y h ms C (knowledge_after k (with_run (change_of_course i.instance course) run))
informed_turned y h ms B C k i course run said begun busy is f =
    quiet_changed y h ms B C k c i.instance (Some j) said
    (record {
      serial = refl;
      stage = refl;
      up = up_by y h ms B k i f busy.at busy.active;
      rises = amend_rises k i.instance course run f.rises;
      at = λ m. turned_at k i course run m busy.at.is_known;
      begun = begun;
      is_known = λ g e. subst (IsKnown y h ms C (knowledge_after k c) i.instance) (some_one j g e) known_now;
      never = λ g q b e x. on_no_wait course q b (ap (λ (z : KnownInstance). z.phase) (some_one j g e) ∙ x);
      dropped = λ g q b e x. absurd
          (busy.steady q b (ap (λ (z : KnownInstance). z.phase) (some_one i g (sym busy.at.is_known ∙ e)) ∙ x));
    }) f
  where
    c : KnowledgeChange
    c = with_run (change_of_course i.instance course) run

    j : KnownInstance
    j = on_course course i

    was : IsKnown y h ms B k i.instance i
    was = f.each i.instance i busy.at.is_known

    known_now : IsKnown y h ms C (knowledge_after k c) i.instance j
    known_now = phase_known y h ms C k c i.instance j refl
        (record { was = was.was; owner = was.owner; phase = on_phase y h ms C k i.instance i.row course is })

-- Granted proposals and launches keep the rules of a value.
use Rattle.std.proofs.Common.{◌≡◌, ◌⊎◌, inl, inr, ℕ, ◌+◌, ◌<◌, ◌≤◌, ◌==◌, ◌&&◌, ◌||◌, not, nat_le, nat_lt, Bool, true, false, if◌then◌else◌, List, [], ◌∷◌, Option, Some, None, Result, Ok, Err, refl, sym, ◌∙◌, subst, arith, eqb-true, leb-true, ltb-true}
use Rattle.std.specs.Cmp.Lexicographic.{pointwise}
use Rattle.std.specs.Prelude.{nat_eq}
use Rattle.smf_fmri.specs.Patterns.{IsInstanceName}
use Rattle.smf_fmri.proofs.Patterns.{same_text}
use Rattle.smf_state.specs.declared.fault.StepFault.{StepFault}
use Rattle.smf_state.specs.declared.refusal.Why.{Why}
use Rattle.smf_state.specs.declared.refusal.Why.TheVariants as whys
use Rattle.smf_state.specs.declared.row.Row.{Row}
use Rattle.smf_state.specs.declared.state.State.TheVariants.{Offline, Online}
use Rattle.smf_state.specs.declared.step.Proposal.{Proposal}
use Rattle.smf_state.specs.Rows.{result_of_proposal, same_state}
use Rattle.smf_model.specs.declared.change.Change.TheVariants.{PutInstance, PutLaunch}
use Rattle.smf_model.specs.declared.command.CommandReply.TheVariants.{Granted, Limit, Made, Stale}
use Rattle.smf_model.specs.declared.held.Instance.{Instance}
use Rattle.smf_model.specs.Contents.{Holdings}
use Rattle.smf_model.specs.Laws.{IsNumbered}
use Rattle.smf_model.specs.Look.{launch_of}
use Rattle.smf_model.specs.Next.{acceptance_with, answer, answer_at, asked_launch, fresh_answer, outcome_of_grant, greatest, is_again, is_other_snapshot, next_launch, refusal_with, snapshot_in, stale, started_by, step_answer, takes_running, with_row, with_running}
use Rattle.smf_laws.specs.Consistent.{IsConsistent, IsInstanceHeld, IsLaunched, IsOwn}
use Rattle.smf_laws.proofs.CommandChanges.{IsFound, Keeps, accepts_one, by_found, either, refuses}
use Rattle.smf_laws.proofs.Bounded.{IsStepped, step_kept}
use Rattle.smf_laws.proofs.Held.{Grows, grows_itself, instance_put, launch_put}
use Rattle.smf_laws.proofs.Snapshots.{snapped, snaps_row}

-- ---- proposals

-- a proposal that is not stale is of the newest launch of the row's owner, and starts by the running snapshot
record IsTimely (h : Holdings) (r : Row) (p : Proposal) : Type 0 where
  launch : p.launch ≡ launch_of h p.proposer
  owner : r.owner ≡ p.proposer
  own : is_other_snapshot r p.step ≡ false

timely_by : (zero same owned next other : Bool)
    → (if zero || not same then Some whys.Launch else if not owned then Some whys.Owner else if not next
    then Some whys.Number else if other then Some whys.Snapshot else None) ≡ None
    → (same ≡ true) × (owned ≡ true) × (other ≡ false)
timely_by true same owned next other e = absurd cc
timely_by false false owned next other e = absurd cc
timely_by false true false next other e = absurd cc
timely_by false true true false other e = absurd cc
timely_by false true true true true e = absurd cc
timely_by false true true true false e = (refl, refl, refl)

timely : (h : Holdings) (r : Row) (p : Proposal) → stale h r p ≡ None → IsTimely h r p
timely h r p e =
    let parts = timely_by (p.launch == 0) (p.launch == launch_of h p.proposer) (pointwise nat_eq r.owner p.proposer)
    (p.number == r.number + 1) (is_other_snapshot r p.step) e in
    record {
      launch = eqb-true p.launch (launch_of h p.proposer) parts.0;
      owner = (same_text r.owner p.proposer).0 parts.1;
      own = parts.2;
    }

snapshot_in_own : (k : Holdings) (n : ℕ) (o : Option ℕ) → IsOwn k n o → IsOwn k n (snapshot_in o)
snapshot_in_own k n None own = tt
snapshot_in_own k n (Some m) own = by (nat_le m 0x7fff_ffff_ffff_ffff)
  where
    by : (b : Bool) → IsOwn k n (if b then Some m else None)
    by true = own
    by false = tt

started_own : (k : Holdings) (n : ℕ) (before after : Row) (start : Option ℕ) → IsOwn k n start → IsOwn k n after.begun
    → IsOwn k n (started_by before after start)
started_own k n before after start old new = by (same_state before.state Offline && same_state after.state Online)
  where
    by : (b : Bool) → IsOwn k n (if b then snapshot_in after.begun else start)
    by true = snapshot_in_own k n after.begun new
    by false = old

begun_own : (k : Holdings) (n : ℕ) (before after : Row) → IsOwn k n before.running → IsOwn k n before.begun
    → (after.begun ≡ before.begun) ⊎ (after.begun ≡ before.running) → IsOwn k n after.begun
begun_own k n before after running begun (inl e) = subst (IsOwn k n) (sym e) begun
begun_own k n before after running begun (inr e) = subst (IsOwn k n) (sym e) running

one_more : (n m : ℕ) (P : Type 0) → n ≡ m + 1 → n ≡ 0 → P
one_more n m P e zero = absurd (omega arith)

step_launched : (h k : Holdings) (r after : Row) (p : Proposal) → Grows h k → IsTimely h r p → IsStepped r after p
    → IsLaunched k after
step_launched h k r after p g t s =
    let name : after.owner ≡ p.proposer = s.owner ∙ t.owner in
    let low : launch_of h p.proposer ≤ launch_of k p.proposer = g.launches p.proposer in
    let count : after.launch ≡ launch_of h p.proposer = s.launch ∙ t.launch in
    let given : after.launch ≤ launch_of k p.proposer = omega arith in
    record {
      given = subst (λ (owner : List ℕ). after.launch ≤ launch_of k owner) (sym name) given;
      first = λ e. one_more after.number r.number _ s.number e;
    }

-- an instance with the row that a step led to, and that names this running snapshot
granted_held : (h k : Holdings) (i : Instance) (p : Proposal) (row : Row) → Grows h k → IsInstanceHeld k i
    → IsTimely h i.row p → IsStepped i.row row p → IsInstanceHeld k (with_row i row)
granted_held h k i p row g held t s =
    let begun : IsOwn k i.number row.begun =
    begun_own k i.number i.row row held.snapshots.running held.snapshots.begun s.begun in
    record {
      named = held.named;
      of_service = held.of_service;
      bounded = s.bounded;
      launched = step_launched h k i.row row p g t s;
      snapshots = record {
        start = started_own k i.number i.row row i.start held.snapshots.start begun;
        previous = held.snapshots.previous;
        running = subst (IsOwn k i.number) (sym s.running) held.snapshots.running;
        begun = begun;
      };
    }

-- the same if the step takes the snapshot `running`
running_held : (h k : Holdings) (i : Instance) (p : Proposal) (row : Row) → IsOwn k i.number (Some h.next_snapshot)
    → IsInstanceHeld k (with_row i row) → IsInstanceHeld k (with_row i (with_running h row))
running_held h k i p row own held =
    record {
      named = held.named;
      of_service = held.of_service;
      bounded = record {
        live = held.bounded.live;
        side = held.bounded.side;
        last = held.bounded.last;
        number = held.bounded.number;
        serial = held.bounded.serial;
      };
      launched = record { given = held.launched.given; first = held.launched.first };
      snapshots = record {
        start = held.snapshots.start;
        previous = held.snapshots.previous;
        running = own;
        begun = held.snapshots.begun;
      };
    }

grants : (h : Holdings) (n : ℕ) (i : Instance) (p : Proposal) (row : Row) (t : Bool) → IsNumbered h → IsConsistent h
    → IsFound h n i → IsTimely h i.row p → IsStepped i.row row p → Keeps h (outcome_of_grant h i row t)
grants h n i p row true b c f timely_so s =
    snaps_row h n i (with_row i (with_running h row)) (Granted (with_running h row)) b c f
    (λ held g own. running_held h (snapped h i) i p row own (granted_held h (snapped h i) i p row g held timely_so s))
grants h n i p row false b c f timely_so s =
    accepts_one h (PutInstance (with_row i row)) (Granted row) c
    (instance_put h (with_row i row) c (granted_held h h i p row (grows_itself h) f.held timely_so s))

answers_step : (h : Holdings) (n : ℕ) (i : Instance) (p : Proposal) (r : Result Row StepFault) → IsNumbered h
    → IsConsistent h → IsFound h n i → IsTimely h i.row p → result_of_proposal i.row p (h.revision + 1) ≡ r
    → Keeps h (step_answer h i r)
answers_step h n i p (Err fault) b c f t e = refuses h (Stale (whys.Step fault) (Some i.row)) c
answers_step h n i p (Ok row) b c f t e = by (nat_le row.serial greatest) refl
  where
    by : (v : Bool) → nat_le row.serial greatest ≡ v
        → Keeps h (if v then outcome_of_grant h i row (takes_running i.row row) else refusal_with Limit)
    by true d = grants h n i p row (takes_running i.row row) b c f t
        (step_kept i.row row p (h.revision + 1) f.held.bounded t.own e (leb-true row.serial greatest d))
    by false d = refuses h Limit c

answers_fresh : (h : Holdings) (n : ℕ) (i : Instance) (p : Proposal) (o : Option Why) → IsNumbered h → IsConsistent h
    → IsFound h n i → stale h i.row p ≡ o → Keeps h (fresh_answer h i p o)
answers_fresh h n i p (Some why) b c f e = refuses h (Stale why (Some i.row)) c
answers_fresh h n i p None b c f e =
    answers_step h n i p (result_of_proposal i.row p (h.revision + 1)) b c f (timely h i.row p e) refl

pub answers : (h : Holdings) (p : Proposal) → IsNumbered h → IsConsistent h → Keeps h (answer h p)
unfolding answer
answers h p b c =
    by_found h p.instance (answer_at h p) c (refuses h (Stale whys.NoSuch None) c)
    (λ (i : Instance) f. either h (is_again i.row p) _ _ (refuses h (Granted i.row) c)
    (answers_fresh h p.instance i p (stale h i.row p) b c f refl))

-- ---- a launch

pub launches : (h : Holdings) (name : List ℕ) → IsConsistent h → IsInstanceName name → Keeps h (asked_launch h name)
unfolding asked_launch
launches h name c is = by (nat_lt (launch_of h name) greatest) refl
  where
    by : (v : Bool) → nat_lt (launch_of h name) greatest ≡ v
        → Keeps h (if v then acceptance_with h (PutLaunch (next_launch h name) ∷ []) (Made (launch_of h name + 1))
        else refusal_with Limit)
    by true e =
        let low : launch_of h name < greatest = ltb-true (launch_of h name) greatest e in
        accepts_one h (PutLaunch (next_launch h name)) (Made (launch_of h name + 1)) c
        (launch_put h (next_launch h name) c (record { named = is; count = omega arith }) (omega arith))
    by false e = refuses h Limit c

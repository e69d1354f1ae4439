-- The first reason for which a proposal is refused.
use Rattle.std.proofs.Common.{nat_lt, ◌≡◌, inl, inr, ℕ, ◌+◌, ◌==◌, ◌&&◌, ◌||◌, not, nat_eq, nat_le, Bool, true, false, if◌then◌else◌, [], ◌∷◌, Option, Some, None, Decides, refl, sym, ap, ◌∙◌, subst, eqb-true, eq-eqb}
use Rattle.std.specs.Cmp.Lexicographic.{pointwise}
use Rattle.smf_fmri.proofs.Patterns.{same_text}
use Rattle.smf_state.specs.declared.fault.StepFault.{StepFault}
use Rattle.smf_state.specs.declared.refusal.Why.{Why}
use Rattle.smf_state.specs.declared.refusal.Why.TheVariants as whys
use Rattle.smf_state.specs.declared.row.Row.{Row}
use Rattle.smf_state.specs.declared.step.Proposal.{Proposal}
use Rattle.smf_state.specs.declared.step.Step.{Step}
use Rattle.smf_state.specs.declared.step.Step.TheVariants.{Move, Start, Stop, Refresh, End, Note}
use Rattle.smf_state.specs.Rows.{GoesOn, result_of_proposal, applied_unless, row_with_numbers, refusal, row_after_step}
use Rattle.smf_state.proofs.Steps.{accepted_goes_on}
use Rattle.smf_model.specs.declared.change.Change.TheVariants.{PutInstance}
use Rattle.smf_model.specs.declared.command.Command.TheVariants as commands
use Rattle.smf_model.specs.declared.command.CommandReply.TheVariants.{Granted, Limit, Stale}
use Rattle.smf_model.specs.declared.held.Instance.{Instance}
use Rattle.smf_model.specs.Contents.{Holdings}
use Rattle.smf_model.specs.Look.{launch_of}
use Rattle.smf_model.specs.Next.{answer, answer_at, outcome_of_command, fresh_answer, outcome_of_grant as granted_to, greatest, is_again, is_other_snapshot, is_running, next, refusal_with, stale, step_answer, takes_running, with_row, with_running}
use Rattle.smf_laws.specs.Effects.{instance_as_read}
use Rattle.smf_laws.specs.Refusals.{HasLaunch, HasNumber, HasOwner, HasSnapshot, HasStep, IsByRunning, IsJudged, IsOfLaunch, IsRepeat, again, granted, has_numbers_left, has_snapshot_left, launch, limit, number, owner, snapshot, step, takes_first}
use Rattle.smf_laws.proofs.Outcomes.{no_both, one_of, reply_accepted, reply_snapshot}

-- ---- the tests

three : (a b d : Bool) → (a && b && d) ≡ true → (a ≡ true) × (b ≡ true) × (d ≡ true)
three false b d e = absurd cc
three true false d e = absurd cc
three true true false e = absurd cc
three true true true e = (refl, refl, refl)

is_repeat : (r : Row) (p : Proposal) → Decides (is_again r p) (IsRepeat r p)
is_repeat r p = (
  λ e. (let parts = three (pointwise nat_eq r.owner p.proposer) (r.launch == p.launch) (r.serial == p.serial) e in
      record {
        owner = (same_text r.owner p.proposer).0 parts.0;
        launch = eqb-true r.launch p.launch parts.1;
        serial = eqb-true r.serial p.serial parts.2;
      }),
  λ a. rw (
    (same_text r.owner p.proposer).1 a.owner,
    eq-eqb r.launch p.launch a.launch,
    eq-eqb r.serial p.serial a.serial,
  ) refl,
)

is_not : {P : Type 0} (b : Bool) → Decides b P → b ≡ false → P → ⊥
is_not b d e p = no_both b (d.1 p) e

not_false : (b : Bool) → not b ≡ false → b ≡ true
not_false true e = refl
not_false false e = absurd cc

not_true : (b : Bool) → not b ≡ true → b ≡ false
not_true true e = absurd cc
not_true false e = refl

same_number : (a b : ℕ) → Decides (a == b) (a ≡ b)
same_number a b = (λ e. eqb-true a b e, λ e. eq-eqb a b e)

either_way : (a b : Bool) → (a || not b) ≡ true → a ≡ false → b ≡ false
either_way true b e f = absurd cc
either_way false b e f = not_true b e

neither_way : (a b : Bool) → (a || not b) ≡ false → (a ≡ false) × (b ≡ true)
neither_way true b e = absurd cc
neither_way false b e = (refl, not_false b e)

of_launch : (h : Holdings) (p : Proposal) → ((p.launch == 0) || not (p.launch == launch_of h p.proposer)) ≡ false
    → IsOfLaunch h p
of_launch h p e =
    let parts = neither_way (p.launch == 0) (p.launch == launch_of h p.proposer) e in
    record {
      begun = is_not (p.launch == 0) (same_number p.launch 0) parts.0;
      last = eqb-true p.launch (launch_of h p.proposer) parts.1;
    }

not_of_launch : (h : Holdings) (p : Proposal) → ((p.launch == 0) || not (p.launch == launch_of h p.proposer)) ≡ true
    → IsOfLaunch h p → ⊥
not_of_launch h p e l =
    no_both (p.launch == launch_of h p.proposer) (eq-eqb p.launch (launch_of h p.proposer) l.last)
    (either_way (p.launch == 0) (p.launch == launch_of h p.proposer) e (begun (p.launch == 0) refl))
  where
    begun : (b : Bool) → (p.launch == 0) ≡ b → b ≡ false
    begun true f = absurd (l.begun (eqb-true p.launch 0 f))
    begun false f = refl

running_is : (o : Option ℕ) (s : ℕ) → Decides (is_running o s) (o ≡ Some s)
running_is None s = (λ e. absurd cc, λ e. absurd (none_some e))
  where
    none_some : None ≡ Some s → ⊥
    none_some e = cc
running_is (Some n) s = (λ e. ap (λ (m : ℕ). Some m) (eqb-true n s e), λ e. eq-eqb n s (some_same e))
  where
    some_same : Some n ≡ Some s → n ≡ s
    some_same e = cc

by_running : (r : Row) (s : Step) → is_other_snapshot r s ≡ false → IsByRunning r s
by_running r (Start run snap duration ignore base) e =
    (running_is r.running snap).0 (not_false (is_running r.running snap) e)
by_running r (Move to) e = tt
by_running r (Stop to cause run) e = tt
by_running r (Refresh run) e = tt
by_running r (End to keep failed cause) e = tt
by_running r (Note bits keep) e = tt

not_by_running : (r : Row) (s : Step) → is_other_snapshot r s ≡ true → IsByRunning r s → ⊥
not_by_running r (Start run snap duration ignore base) e b =
    no_both (is_running r.running snap) ((running_is r.running snap).1 b) (not_true (is_running r.running snap) e)
not_by_running r (Move to) e b = no_both false e refl
not_by_running r (Stop to cause run) e b = no_both false e refl
not_by_running r (Refresh run) e b = no_both false e refl
not_by_running r (End to keep failed cause) e b = no_both false e refl
not_by_running r (Note bits keep) e b = no_both false e refl

-- ---- the row that is granted

keeps_owner : (r : Row) (s : Step) (revision : ℕ) → (row_after_step r s revision).owner ≡ r.owner
keeps_owner r (Move to) revision = refl
keeps_owner r (Start run snap duration ignore base) revision = refl
keeps_owner r (Stop to cause run) revision = refl
keeps_owner r (Refresh run) revision = refl
keeps_owner r (End to keep failed cause) revision = refl
keeps_owner r (Note bits keep) revision = refl

abbrev row_then : Holdings → Proposal → Row → Row
row_then h p r = row_with_numbers (row_after_step r p.step (h.revision + 1)) (r.number + 1) p

goes_on : (h : Holdings) (p : Proposal) (r : Row) → refusal r p.step ≡ None → GoesOn r (row_then h p r)
unfolding result_of_proposal
goes_on h p r e =
    accepted_goes_on r (row_then h p r) p (h.revision + 1)
    (ap (λ (o : Option StepFault). applied_unless o (row_then h p r)) e)

repeats : (h : Holdings) (p : Proposal) (r : Row) → r.owner ≡ p.proposer → IsRepeat (row_then h p r) p
repeats h p r e = record { owner = keeps_owner r p.step (h.revision + 1) ∙ e; launch = refl; serial = refl }

no_and : (a b : Bool) → (a && b && false) ≡ false
no_and true true = refl
no_and true false = refl
no_and false b = refl

-- no revision is left
no_revision : (h : Holdings) (p : Proposal) (r : Row) → nat_lt h.revision greatest ≡ false
    → has_numbers_left h p r ≡ false
no_revision h p r e =
    ap (λ (b : Bool). nat_le p.serial greatest && b && (not (takes_first h p r) || has_snapshot_left h)) e
    ∙ by (nat_le p.serial greatest)
  where
    by : (a : Bool) → (a && false && (not (takes_first h p r) || has_snapshot_left h)) ≡ false
    by true = refl
    by false = refl

no_snapshot : (h : Holdings) (p : Proposal) (r : Row) → takes_first h p r ≡ true → has_snapshot_left h ≡ false
    → has_numbers_left h p r ≡ false
no_snapshot h p r e f =
    ap (λ (b : Bool). nat_le p.serial greatest && nat_lt h.revision greatest && (not b || has_snapshot_left h)) e
    ∙ ap (λ (b : Bool). nat_le p.serial greatest && nat_lt h.revision greatest && b) f
    ∙ no_and (nat_le p.serial greatest) (nat_lt h.revision greatest)

all_left : (h : Holdings) (p : Proposal) (r : Row) (t : Bool) → nat_le p.serial greatest ≡ true
    → nat_lt h.revision greatest ≡ true → takes_first h p r ≡ t → (not t || has_snapshot_left h) ≡ true
    → has_numbers_left h p r ≡ true
all_left h p r t e f g k = rw (e, f, g) k

grants : (h : Holdings) (p : Proposal) (i : Instance) → HasStep h p i.row → nat_le p.serial greatest ≡ true
    → (b : Bool) → takes_first h p i.row ≡ b
    → IsJudged h p i.row (granted_to h i (row_then h p i.row) b).reply
grants h p i s low true takes =
    let row : Row = row_then h p i.row in
    let on : GoesOn i.row row = goes_on h p i.row s.step in
    let rep : IsRepeat row p = repeats h p i.row s.before.before.before.owner in
    reply_snapshot (IsJudged h p i.row) h i (PutInstance (with_row i (with_running h row)) ∷ [])
    (Granted (with_running h row))
    (λ e f. granted s (all_left h p i.row true low f takes e) (with_running h row)
    (record { along = on.along; counted = on.counted; runs_kept = on.runs_kept })
    (record { owner = rep.owner; launch = rep.launch; serial = rep.serial }) refl)
    (λ e. limit s (elim e [ inl f ↦ no_snapshot h p i.row takes f | inr f ↦ no_revision h p i.row f ]) refl)
grants h p i s low false takes =
    let row : Row = row_then h p i.row in
    reply_accepted (IsJudged h p i.row) h (PutInstance (with_row i row) ∷ []) (Granted row)
    (λ e. granted s (all_left h p i.row false low e takes refl) row (goes_on h p i.row s.step)
    (repeats h p i.row s.before.before.before.owner) refl)
    (λ e. limit s (no_revision h p i.row e) refl)

judges_step : (h : Holdings) (p : Proposal) (i : Instance) → HasSnapshot h p i.row → (o : Option StepFault)
    → refusal i.row p.step ≡ o
    → IsJudged h p i.row (step_answer h i (applied_unless o (row_then h p i.row))).reply
judges_step h p i s (Some fault) e = step s fault e refl
judges_step h p i s None e =
    one_of (IsJudged h p i.row) (nat_le (row_then h p i.row).serial greatest)
    (granted_to h i (row_then h p i.row) (takes_running i.row (row_then h p i.row))) (refusal_with Limit)
    (λ f. grants h p i (record { before = s; step = e }) f (takes_running i.row (row_then h p i.row)) refl)
    (λ f. limit (record { before = s; step = e })
    (ap (λ (b : Bool). b && nat_lt h.revision greatest && (not (takes_first h p i.row) || has_snapshot_left h)) f)
    refl)

-- ---- in order

pick : (P : Option Why → Type 0) (b : Bool) (x y : Option Why) → (b ≡ true → P x) → (b ≡ false → P y)
    → P (if b then x else y)
pick P true x y f g = f refl
pick P false x y f g = g refl

judges_fresh : (h : Holdings) (p : Proposal) (i : Instance) → (IsRepeat i.row p → ⊥)
    → IsJudged h p i.row (fresh_answer h i p (stale h i.row p)).reply
unfolding result_of_proposal
judges_fresh h p i fresh =
    let P : Option Why → Type 0 = λ o. IsJudged h p i.row (fresh_answer h i p o).reply in
    pick P ((p.launch == 0) || not (p.launch == launch_of h p.proposer)) (Some whys.Launch) _
    (λ e. launch fresh (not_of_launch h p e) refl)
    (λ e. (let has_launch : HasLaunch h p i.row = record { is_new = fresh; launch = of_launch h p e } in
    pick P (not (pointwise nat_eq i.row.owner p.proposer)) (Some whys.Owner) _
    (λ f. owner has_launch
    (is_not (pointwise nat_eq i.row.owner p.proposer) (same_text i.row.owner p.proposer) (not_true _ f)) refl)
    (λ f. (let has_owner : HasOwner h p i.row = record {
      before = has_launch;
      owner = (same_text i.row.owner p.proposer).0 (not_false _ f);
    } in
    pick P (not (p.number == i.row.number + 1)) (Some whys.Number) _
    (λ g. number has_owner
    (is_not (p.number == i.row.number + 1) (same_number p.number (i.row.number + 1)) (not_true _ g)) refl)
    (λ g. (let has_number : HasNumber h p i.row = record {
      before = has_owner;
      number = eqb-true p.number (i.row.number + 1) (not_false _ g);
    } in
    pick P (is_other_snapshot i.row p.step) (Some whys.Snapshot) None
    (λ k. snapshot has_number (not_by_running i.row p.step k) refl)
    (λ k. judges_step h p i (record { before = has_number; snapshot = by_running i.row p.step k })
    (refusal i.row p.step) refl)))))))

judges_at : (h : Holdings) (p : Proposal) (i : Instance) → IsJudged h p i.row (answer_at h p (Some i)).reply
judges_at h p i =
    one_of (IsJudged h p i.row) (is_again i.row p) (refusal_with (Granted i.row)) (fresh_answer h i p (stale h i.row p))
    (λ e. again ((is_repeat i.row p).0 e) refl)
    (λ e. judges_fresh h p i (is_not (is_again i.row p) (is_repeat i.row p) e))

pub is_judged : (h : Holdings) (p : Proposal) (i : Instance) → instance_as_read h p.instance ≡ Some i
    → IsJudged h p i.row (next h (commands.Propose p)).1
unfolding next outcome_of_command answer
is_judged h p i e =
    subst (λ (o : Option Instance). IsJudged h p i.row (answer_at h p o).reply) (sym e) (judges_at h p i)

pub of_no_such : (h : Holdings) (p : Proposal) → instance_as_read h p.instance ≡ None
    → (next h (commands.Propose p)).1 ≡ Stale whys.NoSuch None
unfolding next outcome_of_command answer
of_no_such h p e = ap (λ (o : Option Instance). (answer_at h p o).reply) e

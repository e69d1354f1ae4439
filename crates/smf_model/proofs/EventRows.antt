-- The revisions that a row keeps after a granted step.
use Rattle.std.proofs.Common.{◌≡◌, ◌⊎◌, inl, inr, ℕ, ◌+◌, ◌&&◌, ◌||◌, not, Bool, true, false, if◌then◌else◌, List, Option, Some, None, Ok, refl, sym, ap, subst}
use Rattle.smf_state.specs.declared.row.Row.{Row}
use Rattle.smf_state.specs.declared.fault.StepFault.{StepFault}
use Rattle.smf_state.specs.declared.state.Cause.{Cause}
use Rattle.smf_state.specs.declared.state.Cause.TheVariants.{Error, NonError, Admin, Config}
use Rattle.smf_state.specs.declared.state.State.{State}
use Rattle.smf_state.specs.declared.state.State.TheVariants.{Uninitialized, Disabled, Offline, Online, Degraded, Maintenance}
use Rattle.smf_state.specs.declared.step.Proposal.{Proposal}
use Rattle.smf_state.specs.declared.step.Step.{Step}
use Rattle.smf_state.specs.declared.step.Step.TheVariants.{Move, Start, Stop, Refresh, End, Note}
use Rattle.smf_state.specs.Rows.{result_of_proposal, applied_unless, is_error, row_with_numbers, refusal, same_state, row_after_step}
use Rattle.smf_state.specs.States.{runs}
use Rattle.smf_model.specs.Dates.{EventKind, ErrorStop, OtherStop, Refreshed, Started, revision_of}

-- the four revisions stay
pub record SameDates (before after : Row) : Type 0 where
  pub err : after.err ≡ before.err
  pub stop : after.stop ≡ before.stop
  pub refresh : after.refresh ≡ before.refresh
  pub start : after.start ≡ before.start

pub same_dates : (a b : Row) → SameDates a b → (kind : EventKind) → revision_of kind b ≡ revision_of kind a
same_dates a b s ErrorStop = s.err
same_dates a b s OtherStop = s.stop
same_dates a b s Refreshed = s.refresh
same_dates a b s Started = s.start

pub dates_equal : (a b : Row) → b ≡ a → SameDates a b
dates_equal a b e =
    record {
      err = ap (λ (r : Row). r.err) e;
      stop = ap (λ (r : Row). r.stop) e;
      refresh = ap (λ (r : Row). r.refresh) e;
      start = ap (λ (r : Row). r.start) e;
    }

-- the four revisions after an end
pub record EndDates (before after : Row) (cause : Cause) (revision : ℕ) : Type 0 where
  pub err : after.err ≡ (if runs before.state && not (runs after.state) && is_error cause then revision else before.err)
  pub stop : after.stop
      ≡ (if runs before.state && not (runs after.state) && not (is_error cause) then revision else before.stop)
  pub refresh : after.refresh ≡ before.refresh
  pub start : after.start
      ≡ (if same_state before.state Offline && same_state after.state Online then revision else before.start)

-- a step that is no end leaves them
pub data RowDates (before after : Row) (s : Step) (revision : ℕ) : Type 0 where
  no_end : SameDates before after
      → ((to : State) (keep : Bool) (failed : ℕ) (cause : Cause) → s ≡ End to keep failed cause → ⊥)
      → RowDates before after s revision
  at_end : (to : State) (keep : Bool) (failed : ℕ) (cause : Cause) → s ≡ End to keep failed cause
      → EndDates before after cause revision → RowDates before after s revision

-- the row as it is read has another owner, at most
row_dates : (r : Row) (owner : List ℕ) (s : Step) (p : Proposal) (number revision : ℕ)
    → RowDates r (row_with_numbers (row_after_step (record r { owner = owner }) s revision) number p) s revision
row_dates r owner (Move to) p number revision =
    no_end (record { err = refl; stop = refl; refresh = refl; start = refl }) (λ t k f c e. cc)
row_dates r owner (Start run snapshot duration ignore base) p number revision =
    no_end (record { err = refl; stop = refl; refresh = refl; start = refl }) (λ t k f c e. cc)
row_dates r owner (Stop to cause run) p number revision =
    no_end (record { err = refl; stop = refl; refresh = refl; start = refl }) (λ t k f c e. cc)
row_dates r owner (Refresh run) p number revision =
    no_end (record { err = refl; stop = refl; refresh = refl; start = refl }) (λ t k f c e. cc)
row_dates r owner (End to keep failed cause) p number revision =
    at_end to keep failed cause refl (record { err = refl; stop = refl; refresh = refl; start = refl })
row_dates r owner (Note bits keep) p number revision =
    no_end (record { err = refl; stop = refl; refresh = refl; start = refl }) (λ t k f c e. cc)

taken : (o : Option StepFault) (r after : Row) → applied_unless o r ≡ Ok after → r ≡ after
taken None r after e = cc
taken (Some f) r after e = absurd cc

-- the revisions in a row that was granted
pub applied_dates : (r i after : Row) (p : Proposal) (revision : ℕ) → i ≡ record r { owner = i.owner }
    → result_of_proposal i p revision ≡ Ok after → RowDates r after p.step revision
unfolding result_of_proposal
applied_dates r i after p revision is e =
    let made : row_with_numbers (row_after_step i p.step revision) (i.number + 1) p ≡ after =
    taken (refusal i p.step) (row_with_numbers (row_after_step i p.step revision) (i.number + 1) p) after e in
    subst (λ (x : Row). RowDates r x p.step revision) made
    (subst (λ (x : Row). RowDates r (row_with_numbers (row_after_step x p.step revision) (i.number + 1) p) p.step
    revision) (sym is)
    (row_dates r i.owner p.step p (i.number + 1) revision))

-- the snapshot `running` is none of them
pub with_snapshot_dates : (r after : Row) (running : Option ℕ) (s : Step) (revision : ℕ) → RowDates r after s revision
    → RowDates r (record after { running = running }) s revision
with_snapshot_dates r after running s revision (no_end d n) =
    no_end (record { err = d.err; stop = d.stop; refresh = d.refresh; start = d.start }) n
with_snapshot_dates r after running s revision (at_end to keep failed cause e d) =
    at_end to keep failed cause e (record { err = d.err; stop = d.stop; refresh = d.refresh; start = d.start })

-- ---- tests

pub is_error_cause : (c : Cause) → is_error c ≡ true → c ≡ Error
is_error_cause Error e = refl
is_error_cause NonError e = absurd cc
is_error_cause Admin e = absurd cc
is_error_cause Config e = absurd cc

pub other_cause : (c : Cause) → is_error c ≡ false → c ≡ Error → ⊥
other_cause Error e f = cc
other_cause NonError e f = cc
other_cause Admin e f = cc
other_cause Config e f = cc

pub no_error_cause : (c : Cause) → (c ≡ Error → ⊥) → is_error c ≡ false
no_error_cause Error n = absurd (n refl)
no_error_cause NonError n = refl
no_error_cause Admin n = refl
no_error_cause Config n = refl

pub is_offline : (s : State) → same_state s Offline ≡ true → s ≡ Offline
is_offline Uninitialized e = absurd cc
is_offline Disabled e = absurd cc
is_offline Offline e = refl
is_offline Online e = absurd cc
is_offline Degraded e = absurd cc
is_offline Maintenance e = absurd cc

pub is_online : (s : State) → same_state s Online ≡ true → s ≡ Online
is_online Uninitialized e = absurd cc
is_online Disabled e = absurd cc
is_online Offline e = absurd cc
is_online Online e = refl
is_online Degraded e = absurd cc
is_online Maintenance e = absurd cc

-- an instance that moves to another restarter does not run
pub not_running : (s : State) (a b d : Bool)
    → ((same_state s Uninitialized || same_state s Disabled) && a && b && d) ≡ true → runs s ≡ false
not_running Uninitialized a b d e = refl
not_running Disabled a b d e = refl
not_running Offline a b d e = absurd cc
not_running Online a b d e = absurd cc
not_running Degraded a b d e = absurd cc
not_running Maintenance a b d e = absurd cc

-- ---- what an end dates

-- a stop, if the instance ran and does not run any more
pub stop_dated : (a b d : Bool) (x revision old : ℕ) → x ≡ (if a && not b && d then revision else old)
    → ((a ≡ true) × (b ≡ false) × (d ≡ true) × (x ≡ revision)) ⊎ (x ≡ old)
stop_dated true false true x revision old e = inl (refl, refl, refl, e)
stop_dated true false false x revision old e = inr e
stop_dated true true d x revision old e = inr e
stop_dated false b d x revision old e = inr e

pub start_dated : (a b : Bool) (x revision old : ℕ) → x ≡ (if a && b then revision else old)
    → ((a ≡ true) × (b ≡ true) × (x ≡ revision)) ⊎ (x ≡ old)
start_dated true true x revision old e = inl (refl, refl, e)
start_dated true false x revision old e = inr e
start_dated false b x revision old e = inr e

-- and back
pub dates_stop : (a b d : Bool) (x revision old : ℕ) → x ≡ (if a && not b && d then revision else old) → a ≡ true
    → b ≡ false → d ≡ true → x ≡ revision
dates_stop true false true x revision old e f g h = e
dates_stop true false false x revision old e f g h = absurd cc
dates_stop true true d x revision old e f g h = absurd cc
dates_stop false b d x revision old e f g h = absurd cc

pub dates_start : (a b : Bool) (x revision old : ℕ) → x ≡ (if a && b then revision else old) → a ≡ true → b ≡ true
    → x ≡ revision
dates_start true true x revision old e f g = e
dates_start true false x revision old e f g = absurd cc
dates_start false b x revision old e f g = absurd cc

-- A granted step keeps the bounds of a row.
use Rattle.std.proofs.Common.{◌≡◌, ◌⊎◌, ℕ, ◌+◌, ◌<◌, ◌≤◌, ◌==◌, ◌&&◌, ◌||◌, not, nat_lt, Bool, true, false, cond, Option, Some, None, Ok, is_none, refl, sym, ap, subst, inl, inr, arith, eqb-true, ltb-true, ltb-false}
use Rattle.std.proofs.lemmas.Bool.{and_parts}
use Rattle.smf_state.specs.declared.fault.StepFault.{StepFault}
use Rattle.smf_state.specs.declared.fault.StepFault.TheVariants.{Exhausted, StillLive, NotLive, NoEdge}
use Rattle.smf_state.specs.declared.row.Row.{Row}
use Rattle.smf_state.specs.declared.state.State.TheVariants.{Offline}
use Rattle.smf_state.specs.declared.step.Proposal.{Proposal}
use Rattle.smf_state.specs.declared.step.Step.{Step}
use Rattle.smf_state.specs.declared.step.Step.TheVariants.{Move, Start, Stop, Refresh, End, Note}
use Rattle.smf_state.specs.Rows.{is_allowed, result_of_proposal, applied_unless, greatest_number, greatest_run, is_next_run, is_past_last, is_steady, is_stopped, run_if_kept, last_with, row_with_numbers, refusal, run_of, same_state, row_after_step}
use Rattle.smf_model.specs.Next.{greatest, is_other_snapshot, is_running}
use Rattle.smf_laws.specs.Consistent.{IsBounded, IsUpTo}

-- the row after a granted step: its bounds, its owner, and the numbers that it gets
pub record IsStepped (r after : Row) (p : Proposal) : Type 0 where
  pub bounded : IsBounded after
  pub owner : after.owner ≡ r.owner
  pub number : after.number ≡ r.number + 1
  pub launch : after.launch ≡ p.launch
  pub running : after.running ≡ r.running
  pub begun : (after.begun ≡ r.begun) ⊎ (after.begun ≡ r.running)

up_to : (a b : ℕ) (o : Option ℕ) → a ≤ b → IsUpTo a o → IsUpTo b o
up_to a b None low h = tt
up_to a b (Some run) low h = omega arith

up_to_kept : (last : ℕ) (keep : Bool) (o : Option ℕ) → IsUpTo last o → IsUpTo last (run_if_kept keep o)
up_to_kept last true o h = h
up_to_kept last false o h = tt

-- ---- what a step that is granted keeps to

accepted : (o : Option StepFault) (r after : Row) → applied_unless o r ≡ Ok after → (o ≡ None) × (r ≡ after)
accepted None r after h = (refl, cc)
accepted (Some f) r after h = absurd cc

all_reasons : (a b c d : Bool)
    → cond a (Some Exhausted) (cond b (Some StillLive) (cond c (Some NotLive) (cond d None (Some NoEdge)))) ≡ None
    → (a ≡ false) × (d ≡ true)
all_reasons true b c d h = absurd cc
all_reasons false true c d h = absurd cc
all_reasons false false true d h = absurd cc
all_reasons false false false true h = (refl, refl)
all_reasons false false false false h = absurd cc

not_exhausted : (a b : Bool) → (not a || b) ≡ false → (a ≡ true) × (b ≡ false)
not_exhausted true false h = (refl, refl)
not_exhausted true true h = absurd cc
not_exhausted false b h = absurd cc

run_rises : (r : Row) (run : Option ℕ) → is_next_run r run ≡ true → r.last ≤ last_with r.last run
run_rises r None h = omega arith
run_rises r (Some run) h = let is : run ≡ r.last + 1 = eqb-true run (r.last + 1) h in omega arith

run_within : (last : ℕ) (run : Option ℕ) → last ≤ greatest_run → is_past_last run ≡ false
    → last_with last run ≤ greatest_run
run_within last None low h = low
run_within last (Some run) low h = ltb-false greatest_run run h

run_itself : (last : ℕ) (run : Option ℕ) → IsUpTo (last_with last run) run
run_itself last None = tt
run_itself last (Some run) = omega arith

runs_on : (snapshot : ℕ) (running : Option ℕ) → not (is_running running snapshot) ≡ false → Some snapshot ≡ running
runs_on snapshot None h = absurd cc
runs_on snapshot (Some n) h = by (n == snapshot) refl h
  where
    by : (b : Bool) → (n == snapshot) ≡ b → not b ≡ false → Some snapshot ≡ Some n
    by true e f = ap Some (sym (eqb-true n snapshot e))
    by false e f = absurd cc

-- ---- each step

steps : (r : Row) (s : Step) (p : Proposal) (revision : ℕ) → IsBounded r → r.number < greatest_number
    → is_past_last (run_of s) ≡ false → is_allowed r s ≡ true → p.serial ≤ greatest → is_other_snapshot r s ≡ false
    → IsStepped r (row_with_numbers (row_after_step r s revision) (r.number + 1) p) p
steps r (Move to) p revision b low run h serial own =
    record {
      bounded = record { live = b.live; side = b.side; last = b.last; number = omega arith; serial = serial };
      owner = refl;
      number = refl;
      launch = refl;
      running = refl;
      begun = inl refl;
    }
steps r (Start run snapshot d i base) p revision b low past h serial own =
    let next : run ≡ r.last + 1 =
    eqb-true run (r.last + 1) (and_parts (same_state r.state Offline && is_none r.next) _ h).1 in
    record {
      bounded = record {
        live = omega arith;
        side = up_to r.last run r.side (omega arith) b.side;
        last = ltb-false greatest_run run past;
        number = omega arith;
        serial = serial;
      };
      owner = refl;
      number = refl;
      launch = refl;
      running = refl;
      begun = inr (runs_on snapshot r.running own);
    }
steps r (Stop to c run) p revision b low past h serial own =
    let next : is_next_run r run ≡ true = (and_parts (is_steady r && is_stopped to) _ h).1 in
    record {
      bounded = record {
        live = up_to r.last (last_with r.last run) r.live (run_rises r run next) b.live;
        side = run_itself r.last run;
        last = run_within r.last run b.last past;
        number = omega arith;
        serial =
            serial;
      };
      owner = refl;
      number = refl;
      launch = refl;
      running = refl;
      begun = inl refl;
    }
steps r (Refresh run) p revision b low past h serial own =
    let next : is_next_run r run ≡ true = (and_parts (is_steady r) _ h).1 in
    record {
      bounded = record {
        live = up_to r.last (last_with r.last run) r.live (run_rises r run next) b.live;
        side = run_itself r.last run;
        last = run_within r.last run b.last past;
        number = omega arith;
        serial =
            serial;
      };
      owner = refl;
      number = refl;
      launch = refl;
      running = refl;
      begun = inl refl;
    }
steps r (End to keep failed c) p revision b low past h serial own =
    record {
      bounded = record {
        live = up_to_kept r.last keep r.live b.live;
        side = tt;
        last = b.last;
        number = omega arith;
        serial = serial;
      };
      owner = refl;
      number = refl;
      launch = refl;
      running = refl;
      begun = inl refl;
    }
steps r (Note bits keep) p revision b low past h serial own =
    record {
      bounded = record {
        live = up_to_kept r.last keep r.live b.live;
        side = b.side;
        last = b.last;
        number = omega arith;
        serial = serial;
      };
      owner = refl;
      number = refl;
      launch = refl;
      running = refl;
      begun = inl refl;
    }

serial_kept : (r after : Row) (number : ℕ) (p : Proposal) → row_with_numbers r number p ≡ after
    → after.serial ≤ greatest → p.serial ≤ greatest
serial_kept r after number p e low = let same : p.serial ≡ after.serial = ap (λ (x : Row). x.serial) e in omega arith

pub step_kept : (r after : Row) (p : Proposal) (revision : ℕ) → IsBounded r → is_other_snapshot r p.step ≡ false
    → result_of_proposal r p revision ≡ Ok after → after.serial ≤ greatest → IsStepped r after p
unfolding result_of_proposal
step_kept r after p revision b own h serial =
    let taken = accepted (refusal r p.step) (row_with_numbers (row_after_step r p.step revision) (r.number + 1) p)
    after h in
    let reasons = all_reasons _ _ _ _ taken.0 in
    let left = not_exhausted (nat_lt r.number greatest_number) (is_past_last (run_of p.step)) reasons.0 in
    let number : r.number < greatest_number = ltb-true r.number greatest_number left.0 in
    let low : p.serial ≤ greatest =
    serial_kept (row_after_step r p.step revision) after (r.number + 1) p taken.1 serial in
    subst (λ (x : Row). IsStepped r x p) taken.1 (steps r p.step p revision b number left.1 reasons.1 low own)

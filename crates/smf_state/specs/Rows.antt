-- Rows, and the effect of a granted step on one.
use Rattle.std.specs.Prelude.{◌≡◌, ◌⊎◌, ℕ, List, ◌+◌, ◌≤◌, ◌==◌, ◌||◌, ◌&&◌, not, nat_lt, Bool, true, false, if◌then◌else◌, Option, Some, None, is_some, is_none, Result, Ok, Err}
use Rattle.bitflags.specs.Sets.{without}
use Rattle.std.specs.Int.RustNames.{bit_and, bit_or}
use Rattle.smf_fmri.specs.declared.limits.TheConstants.{MAX_COUNT, MAX_RUN}
use Rattle.smf_state.specs.declared.row.Row.{Row}
use Rattle.smf_state.specs.declared.fault.StepFault.{StepFault}
use Rattle.smf_state.specs.declared.fault.StepFault.TheVariants.{Exhausted, StillLive, NotLive, NoEdge}
use Rattle.smf_state.specs.declared.step.Proposal.{Proposal}
use Rattle.smf_state.specs.declared.step.Step.{Step}
use Rattle.smf_state.specs.declared.step.Step.TheVariants.{Move, Start, Stop, Refresh, End, Note}
use Rattle.smf_state.specs.declared.state.State.{State}
use Rattle.smf_state.specs.declared.state.State.TheVariants.{Uninitialized, Disabled, Offline, Online, Degraded, Maintenance}
use Rattle.smf_state.specs.declared.state.Cause.{Cause}
use Rattle.smf_state.specs.declared.state.Cause.TheVariants as causes
use Rattle.smf_state.specs.declared.state.Duration.TheVariants as durations
use Rattle.smf_state.specs.States.{edge, runs}

-- the greatest row number and the greatest run
abbrev pub greatest_number : ℕ
greatest_number = MAX_COUNT

abbrev pub greatest_run : ℕ
greatest_run = MAX_RUN

abbrev pub same_state : State → State → Bool
same_state Uninitialized Uninitialized = true
same_state Disabled Disabled = true
same_state Offline Offline = true
same_state Online Online = true
same_state Degraded Degraded = true
same_state Maintenance Maintenance = true
same_state _ _ = false

-- ---- why a step is refused

-- the run that a step begins
abbrev pub run_of : Step → Option ℕ
run_of (Start run s d i b) = Some run
run_of (Stop to c run) = run
run_of (Refresh run) = run
run_of _ = None

abbrev pub is_past_last : Option ℕ → Bool
is_past_last None = false
is_past_last (Some run) = nat_lt greatest_run run

-- a run or a number past the last
abbrev pub is_exhausted : Row → Step → Bool
is_exhausted r s = not (nat_lt r.number greatest_number) || is_past_last (run_of s)

-- a run is live, but the step allows none
abbrev pub still_live : Row → Step → Bool
still_live r (Start run s d i b) = is_some r.live
still_live r (Move to) = is_some r.live && not (runs r.state && runs to)
still_live r _ = false

-- nothing is under way that could end
abbrev pub not_live : Row → Step → Bool
not_live r (End to keep failed cause) = is_none r.next
not_live r _ = false

abbrev pub is_stopped : State → Bool
is_stopped Offline = true
is_stopped Disabled = true
is_stopped Maintenance = true
is_stopped _ = false

abbrev pub is_next_run : Row → Option ℕ → Bool
is_next_run r None = true
is_next_run r (Some run) = run == r.last + 1

-- an instance that runs and has nothing under way
abbrev pub is_steady : Row → Bool
is_steady r = is_none r.next && runs r.state

-- a move keeps an instance running, or not running
abbrev pub may_move : State → State → Bool
may_move from to = edge from to && not (same_state to Uninitialized)
    && ((runs from && runs to) || (not (runs from) && not (runs to)))

-- a start ends online, or failed; a refresh ends in the state itself; a stop ends in the next state, or in maintenance
abbrev pub may_end : State → Option State → State → Bool → Bool
may_end Offline (Some Online) to keep = same_state to Online
    || ((same_state to Offline || same_state to Maintenance) && not keep)
may_end state None to keep = false
may_end state (Some next) to keep =
    if runs state && same_state next state then same_state to state && keep
    else runs state && is_stopped next && (same_state to next || same_state to Maintenance) && not keep

-- failed starts are counted offline alone
abbrev pub may_count : State → ℕ → Bool
may_count to failed = same_state to Offline || failed == 0

-- a step has the form that is allowed at a row, the numbers and live runs aside
abbrev pub is_allowed : Row → Step → Bool
is_allowed r (Move to) = is_none r.next && may_move r.state to
is_allowed r (Start run s d i b) = same_state r.state Offline && is_none r.next && run == r.last + 1
is_allowed r (Stop to c run) = is_steady r && is_stopped to && is_next_run r run
is_allowed r (Refresh run) = is_steady r && is_next_run r run
is_allowed r (End to keep failed cause) = may_end r.state r.next to keep && may_count to failed
is_allowed r (Note bits keep) = is_steady r && bit_and 12 bits.0 == bits.0

-- why a step is refused, the first reason
abbrev pub refusal : Row → Step → Option StepFault
refusal r s =
    if is_exhausted r s then Some Exhausted
    else if still_live r s then Some StillLive
    else if not_live r s then Some NotLive
    else if is_allowed r s then None
    else Some NoEdge

-- ---- what a granted step makes of a row

abbrev pub run_if_kept : Bool → Option ℕ → Option ℕ
run_if_kept true run = run
run_if_kept false run = None

-- the asks after a commit that changes the state, or keeps it
abbrev pub asks_at : State → State → ℕ → ℕ
asks_at old new asks = if same_state new Maintenance then 0 else if same_state old new then asks else bit_and asks 3

abbrev pub last_with : ℕ → Option ℕ → ℕ
last_with last None = last
last_with last (Some run) = run

abbrev pub is_error : Cause → Bool
is_error causes.Error = true
is_error _ = false

-- the revision of an end from running, by its cause, or of a start that succeeded
abbrev pub row_with_end_revision : Row → State → Cause → ℕ → Row
row_with_end_revision r to cause revision =
    record r {
      err = (if runs r.state && not (runs to) && is_error cause then revision else r.err);
      stop = (if runs r.state && not (runs to) && not (is_error cause) then revision else r.stop);
      start = (if same_state r.state Offline && same_state to Online then revision else r.start);
    }

-- the row as the step leaves it, its number aside
abbrev pub row_after_step : Row → Step → ℕ → Row
row_after_step r (Move to) revision =
    record r { state = to; asks = record { 0 = asks_at r.state to r.asks.0 }; failed = 0 }
row_after_step r (Start run snapshot duration ignore base) revision =
    record r {
      next = Some Online;
      live = Some run;
      last = run;
      begun = Some snapshot;
      duration = duration;
      ignore = ignore;
      base = base;
    }
row_after_step r (Stop to cause run) revision =
    record r { next = Some to; cause = Some cause; side = run; last = last_with r.last run }
row_after_step r (Refresh run) revision =
    record r {
      next = Some r.state;
      side = run;
      last = last_with r.last run;
      asks = record { 0 = without 8 r.asks.0 128 };
    }
row_after_step r (End to keep failed cause) revision =
    record (row_with_end_revision r to cause revision) {
      state = to;
      next = None;
      side = None;
      live = run_if_kept keep r.live;
      failed = failed;
      asks = record { 0 = asks_at r.state to r.asks.0 };
    }
row_after_step r (Note bits keep) revision =
    record r { asks = record { 0 = bit_or r.asks.0 bits.0 }; live = run_if_kept keep r.live }

-- every granted step adds one to the number and keeps the launch and the serial of its proposal
abbrev pub row_with_numbers : Row → ℕ → Proposal → Row
row_with_numbers r number p = record r { number = number; launch = p.launch; serial = p.serial }

abbrev pub applied_unless : Option StepFault → Row → Result Row StepFault
applied_unless None r = Ok r
applied_unless (Some f) r = Err f

-- the row that the step of a proposal makes at a revision, or why it is refused
unfoldable pub result_of_proposal : Row → Proposal → ℕ → Result Row StepFault
result_of_proposal r p revision =
    applied_unless (refusal r p.step) (row_with_numbers (row_after_step r p.step revision) (r.number + 1) p)

-- an accepted step keeps the state or goes along the diagram, adds one to the number, and frees no run for a second use
pub record GoesOn (before after : Row) : Type 0 where
  pub along : (after.state ≡ before.state) ⊎ (edge before.state after.state ≡ true)
  pub counted : after.number ≡ before.number + 1
  pub runs_kept : before.last ≤ after.last

-- the row of an instance that was just added
abbrev pub fresh : List ℕ → Row
fresh owner = record {
  owner = owner;
  number = 0;
  state = Uninitialized;
  next = None;
  live = None;
  side = None;
  last = 0;
  failed = 0;
  asks = record { 0 = 0 };
  cause = None;
  duration = durations.Contract;
  ignore = 0;
  base = 0;
  err = 0;
  stop = 0;
  refresh = 0;
  start = 0;
  running = None;
  begun = None;
  launch = 0;
  serial = 0;
}

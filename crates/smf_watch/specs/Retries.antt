-- Instances that are tried again: which are owed it, and when.
use Rattle.std.specs.Prelude.{ℕ, zero, suc, ◌+◌, ◌-◌, ◌==◌, ◌&&◌, ◌||◌, not, nat_lt, nat_le, List, [], ◌∷◌, ◌++◌, filter, find, map, Bool, true, false, Option, Some, None, if◌then◌else◌}
use Rattle.std.specs.Duration.{as_nanos}
use Rattle.std.specs.Int.RustNames.{bit_and}
use Rattle.std.specs.List.{list_any}
use Rattle.std.specs.declared.time.Duration.{Duration}
use Rattle.smf_model.specs.declared.held.InstanceEntry.{InstanceEntry}
use Rattle.smf_model.specs.Contents.{Holdings}
use Rattle.smf_state.specs.declared.state.State.{State}
use Rattle.smf_state.specs.declared.state.State.TheVariants.{Disabled, Maintenance}
use Rattle.smf_state.specs.Rows.{same_state}
use Rattle.smf_state.specs.States.{runs}
use Rattle.smf_watch.specs.declared.bounds.Bounds.{Bounds}
use Rattle.smf_watch.specs.declared.causes.KnownRow.{KnownRow}
use Rattle.smf_watch.specs.declared.causes.MaintenanceCause.{MaintenanceCause}
use Rattle.smf_watch.specs.declared.causes.MaintenanceCause.TheVariants.{StartsFailed, StartFailed}
use Rattle.smf_watch.specs.declared.retries.Plan.{Plan}
use Rattle.smf_watch.specs.declared.retries.Retry.{Retry}
use Rattle.smf_watch.specs.declared.retries.RetryStage.{RetryStage}
use Rattle.smf_watch.specs.declared.retries.RetryStage.TheVariants.{Marked, Waits, Tries, Runs}
use Rattle.smf_watch.specs.Bounds.{bounds_of, is_entry, nanoseconds_in}

-- ---- stages

abbrev pub is_marked : RetryStage → Bool
is_marked Marked = true
is_marked _ = false

abbrev pub is_running : RetryStage → Bool
is_running Runs = true
is_running _ = false

abbrev pub is_waiting : RetryStage → Bool
is_waiting Waits = true
is_waiting _ = false

-- the nanoseconds since a time
abbrev pub passed : Duration → Duration → ℕ
passed now since = as_nanos now - as_nanos since

-- an instance has run for its period
abbrev pub has_run : Bounds → Duration → Retry → Bool
has_run b now r = is_running r.stage && nat_le (nanoseconds_in b.period) (passed now r.since)

-- so often it was tried since it last ran for its period
abbrev pub tries_of : Bounds → Duration → Option Retry → ℕ
tries_of b now None = 0
tries_of b now (Some r) = if has_run b now r then 0 else r.tries

-- ---- after a row

-- a start was given up; those that failed before it may have been another server's, and are not counted then
abbrev pub is_given_up : Option MaintenanceCause → Bool
is_given_up (Some StartsFailed) = true
is_given_up (Some StartFailed) = true
is_given_up _ = false

abbrev pub was_marked : Option Retry → Bool
was_marked None = false
was_marked (Some r) = is_marked r.stage

-- in maintenance it waits, if it is to be tried again
abbrev pub waits_if : Bool → Bounds → Duration → Option Retry → KnownRow → Option Retry
waits_if owed b now before k =
    if owed
    then Some (record {
      instance = k.instance;
      tries = tries_of b now before;
      stage = Waits;
      row = k.row.number;
      since = now;
    })
    else None

-- it does not run; one that the server has marked stays so until it is in maintenance
abbrev pub tries_now : Bounds → Duration → Retry → Retry
tries_now b now r =
    if is_marked r.stage then r
    else record { instance = r.instance; tries = tries_of b now (Some r); stage = Tries; row = 0; since = now }

-- it runs, from now on if it did not before
abbrev pub runs_now : Duration → Retry → Retry
runs_now now r =
    if is_marked r.stage || is_running r.stage then r
    else record { instance = r.instance; tries = r.tries; stage = Runs; row = 0; since = now }

abbrev pub retry_now : Bounds → Duration → Retry → Bool → Retry
retry_now b now r running = if running then runs_now now r else tries_now b now r

abbrev pub retry_if : Bounds → Duration → Option Retry → Bool → Option Retry
retry_if b now None running = None
retry_if b now (Some r) running = Some (retry_now b now r running)

abbrev pub retry_by : State → Bounds → Duration → Bool → Option Retry → KnownRow → Option Retry
retry_by Maintenance b now fatal before k =
    waits_if (was_marked before || (is_given_up k.cause && not fatal)) b now before k
retry_by Disabled b now fatal before k = None
retry_by s b now fatal before k = retry_if b now before (runs s)

-- After a row that was seen now. An instance is to be tried again if it is in maintenance by the server's own mark, or since
-- a start was given up that did not fail for good
abbrev pub retry_after : Bounds → Duration → Bool → Option Retry → KnownRow → Option Retry
retry_after b now fatal before k = retry_by k.row.state b now fatal before k

-- ---- those that are known

abbrev pub is_retry_of : ℕ → Retry → Bool
is_retry_of n r = r.instance == n

abbrev pub is_other : ℕ → Retry → Bool
is_other n r = not (is_retry_of n r)

abbrev pub one_if_some : Option Retry → List Retry
one_if_some None = []
one_if_some (Some r) = r ∷ []

-- this in place of what stood of an instance
abbrev pub with_retry : ℕ → Option Retry → List Retry → List Retry
with_retry n retry rs = filter (is_other n) rs ++ one_if_some retry

-- ---- marks of the server

abbrev pub leads_to_maintenance : Option State → Bool
leads_to_maintenance (Some Maintenance) = true
leads_to_maintenance _ = false

-- not in maintenance, nor on the way there, and nobody asks for it
abbrev pub is_unmarked_row : InstanceEntry → Bool
is_unmarked_row e =
    not (same_state e.instance.row.state Maintenance)
    && not (leads_to_maintenance e.instance.row.next)
    && not (bit_and e.instance.row.asks.0 1 == 1)
    && not (bit_and e.instance.row.asks.0 2 == 2)

abbrev pub is_unmarked_by : Option InstanceEntry → Bool
is_unmarked_by None = false
is_unmarked_by (Some e) = is_unmarked_row e

abbrev pub is_unmarked : Holdings → ℕ → Bool
is_unmarked h n = is_unmarked_by (find (is_entry n) h.instances)

abbrev pub marked_at : Holdings → Duration → ℕ → List Retry → Retry
marked_at h now n rs =
    record {
      instance = n;
      tries = tries_of (bounds_of h n) now (find (is_retry_of n) rs);
      stage = Marked;
      row = 0;
      since = now;
    }

-- the server marks an instance, unless an administrator has
abbrev pub with_mark : Holdings → Duration → ℕ → List Retry → List Retry
with_mark h now n rs = if is_unmarked h n then with_retry n (Some (marked_at h now n rs)) rs else rs

abbrev pub with_marks : Holdings → Duration → List ℕ → List Retry → List Retry
with_marks h now [] rs = rs
with_marks h now (n ∷ ns) rs = with_marks h now ns (with_mark h now n rs)

-- ---- what is owed

-- twice as many seconds, but no more than the most
abbrev pub doubled : ℕ → ℕ → ℕ
doubled most seconds = if nat_le (seconds + seconds) most then seconds + seconds else most

abbrev pub least : ℕ → ℕ → ℕ
least n m = if nat_le n m then n else m

abbrev pub delay_after : Bounds → ℕ → ℕ
delay_after b zero = least b.first b.most
delay_after b (suc k) = doubled b.most (delay_after b k)

-- the first delay is `first`, and each is twice as long as the one before it, up to `most`. After 64 of them it is `most`
abbrev pub delay : Bounds → ℕ → ℕ
delay b tries = delay_after b (least tries 64)

abbrev pub may_try : ℕ → ℕ → Bool
may_try most tries = (most == 0) || nat_lt tries most

-- it waits, retries are wanted and left, and its delay is over
abbrev pub is_due_by : Bounds → Duration → Retry → Bool
is_due_by b now r =
    is_waiting r.stage && nat_lt 0 b.first && may_try b.tries r.tries
    && nat_le (nanoseconds_in (delay b r.tries)) (passed now r.since)

abbrev pub stands_by : ℕ → Option InstanceEntry → Bool
stands_by row None = false
stands_by row (Some e) = e.instance.row.number == row

-- an instance has the row of this number
abbrev pub stands_in : Holdings → ℕ → ℕ → Bool
stands_in h n row = stands_by row (find (is_entry n) h.instances)

-- it stands in the row in which it waits, and is to be tried again now
abbrev pub is_due : Holdings → Duration → Retry → Bool
is_due h now r = stands_in h r.instance r.row && is_due_by (bounds_of h r.instance) now r

abbrev pub owed_if : Bool → ℕ → List ℕ
owed_if true n = n ∷ []
owed_if false n = []

-- the instances that are to be tried again now
abbrev pub owed : Holdings → Duration → List Retry → List ℕ
owed h now [] = []
owed h now (r ∷ rs) = owed_if (is_due h now r) r.instance ++ owed h now rs

abbrev pub next_count : ℕ → ℕ
next_count n = if nat_lt n 18446744073709551615 then n + 1 else n

abbrev pub tried_if : Holdings → Duration → Retry → Retry
tried_if h now r =
    if is_due h now r
    then record { instance = r.instance; tries = next_count r.tries; stage = Tries; row = 0; since = now }
    else r

-- what stands once they are tried
abbrev pub tried : Holdings → Duration → List Retry → List Retry
tried h now rs = map (tried_if h now) rs

abbrev pub any_waits : List Retry → Bool
any_waits rs = list_any (λ r. is_waiting r.stage) rs

-- ---- what is planned

abbrev pub sum_of : ℕ → ℕ → ℕ
sum_of n m = if nat_le (n + m) 18446744073709551615 then n + m else 18446744073709551615

-- the second of the clock at which it is tried again, if it is
abbrev pub due_by : Bounds → Retry → Option ℕ
due_by b r =
    if is_waiting r.stage && nat_lt 0 b.first && may_try b.tries r.tries then Some (sum_of r.since.secs (delay b r.tries))
    else None

abbrev pub plan_of : Holdings → Retry → Plan
plan_of h r = record { retry = r; due = due_by (bounds_of h r.instance) r }

abbrev pub plans_of : Holdings → List Retry → List Plan
plans_of h rs = map (plan_of h) rs

-- Why an instance is in maintenance, by what a trail shows of it.
use Rattle.std.specs.Prelude.{◌≡◌, ℕ, ◌+◌, ◌==◌, ◌&&◌, nat_lt, List, [], ◌∷◌, ◌++◌, Bool, false, Option, Some, None, is_none, if◌then◌else◌}
use Rattle.smf_fmri.specs.declared.limits.TheConstants.{FAILED_STARTS_ALLOWED}
use Rattle.smf_fmri.specs.ByKey.{By, by_number, list_with_item, lookup}
use Rattle.smf_state.specs.declared.state.State.{State}
use Rattle.smf_state.specs.declared.state.State.TheVariants.{Offline, Online, Maintenance}
use Rattle.smf_state.specs.Rows.{same_state}
use Rattle.smf_watch.specs.declared.causes.KnownRow.{KnownRow}
use Rattle.smf_watch.specs.declared.causes.MaintenanceCause.{MaintenanceCause}
use Rattle.smf_watch.specs.declared.causes.MaintenanceCause.TheVariants.{StartsFailed, StartFailed, StopFailed, Stopped, Moved}
use Rattle.smf_watch.specs.declared.causes.ShownRow.{ShownRow}
use Rattle.smf_world.specs.declared.item.Item.{Item}
use Rattle.smf_world.specs.declared.item.Item.TheVariants.{Committed}

-- ---- the rows of an instance

abbrev pub row_in : ℕ → Item → List ShownRow
row_in n (Committed i number state next) =
    if i == n then record { number = number; state = state; next = next } ∷ [] else []
row_in n _ = []

-- those of a trail before others, the newest first
abbrev pub rows_before : ℕ → List Item → List ShownRow → List ShownRow
rows_before n [] rows = rows
rows_before n (x ∷ xs) rows = rows_before n xs (row_in n x ++ rows)

-- the rows of an instance that a trail shows, the newest first
abbrev pub rows_of : ℕ → List Item → List ShownRow
rows_of n trail = rows_before n trail []

-- ---- failed starts

abbrev pub leads_to : State → Option State → Bool
leads_to s None = false
leads_to s (Some next) = same_state next s

-- a start is under way
abbrev pub is_starting : ShownRow → Bool
is_starting r = same_state r.state Offline && leads_to Online r.next

abbrev pub is_offline : ShownRow → Bool
is_offline r = same_state r.state Offline && is_none r.next

-- no more are counted than matter
abbrev pub one_more : ℕ → ℕ
one_more count = if nat_lt count FAILED_STARTS_ALLOWED then count + 1 else count

-- a start that begins leaves the count, one that ended offline adds to it, and any other row ends it
abbrev pub starts_after : ShownRow → Bool → ℕ → ℕ
starts_after r began count =
    if is_starting r then count else if began && is_offline r then one_more count else 0

abbrev pub is_start : List ShownRow → Bool
is_start [] = false
is_start (r ∷ rows) = is_starting r

-- so many starts in a row ended offline, up to the newest row
abbrev pub failed_starts : List ShownRow → ℕ
failed_starts [] = 0
failed_starts (r ∷ rows) = starts_after r (is_start rows) (failed_starts rows)

-- ---- the cause

-- a start was given up: it was one too many, or it failed for good
abbrev pub cause_of_start : ℕ → MaintenanceCause
cause_of_start failed = if nat_lt failed FAILED_STARTS_ALLOWED then StartFailed else StartsFailed

-- what was under way ended in maintenance
abbrev pub cause_of_end : State → State → ℕ → MaintenanceCause
cause_of_end state next failed =
    if same_state state Offline then cause_of_start failed
    else if same_state next Maintenance then Stopped
    else StopFailed

-- by the state before, what was under way then, and the starts that had failed
abbrev pub cause_by : State → Option State → ℕ → MaintenanceCause
cause_by state None failed = Moved
cause_by state (Some next) failed = cause_of_end state next failed

-- none if nothing is known of what was before
abbrev pub cause_after : List ShownRow → Option MaintenanceCause
cause_after [] = None
cause_after (r ∷ rows) = Some (cause_by r.state r.next (failed_starts (r ∷ rows)))

-- why the newest row is in maintenance, if it is, by the one before it
abbrev pub cause : List ShownRow → Option MaintenanceCause
cause [] = None
cause (r ∷ rows) = if same_state r.state Maintenance then cause_after rows else None

-- ---- what is known

abbrev pub by_instance : By KnownRow ℕ
by_instance = by_number (λ r. r.instance)

-- the newest row of an instance, the starts that failed up to it, and why it is in maintenance
abbrev pub known_of : ℕ → List ShownRow → Option KnownRow
known_of n [] = None
known_of n (r ∷ rows) =
    Some (record { instance = n; row = r; failed = failed_starts (r ∷ rows); cause = cause (r ∷ rows) })

-- this is known of each instance that a trail shows, and of no other
abbrev pub Knows : List KnownRow → List Item → Type 0
Knows known trail = (n : ℕ) → lookup by_instance known n ≡ known_of n (rows_of n trail)

-- ---- one more item

abbrev pub started_in : Option KnownRow → Bool
started_in None = false
started_in (Some k) = is_starting k.row

abbrev pub failed_in : Option KnownRow → ℕ
failed_in None = 0
failed_in (Some k) = k.failed

abbrev pub cause_in : Option KnownRow → Option MaintenanceCause
cause_in None = None
cause_in (Some k) = Some (cause_by k.row.state k.row.next k.failed)

abbrev pub known_after : Option KnownRow → ℕ → ShownRow → KnownRow
known_after before n r =
    record {
      instance = n;
      row = r;
      failed = starts_after r (started_in before) (failed_in before);
      cause = (if same_state r.state Maintenance then cause_in before else None);
    }

abbrev pub with_row : ℕ → ShownRow → List KnownRow → List KnownRow
with_row n r known = list_with_item by_instance (known_after (lookup by_instance known n) n r) known

abbrev pub with_item : Item → List KnownRow → List KnownRow
with_item (Committed i number state next) known =
    with_row i (record { number = number; state = state; next = next }) known
with_item _ known = known

abbrev pub with_items : List Item → List KnownRow → List KnownRow
with_items [] known = known
with_items (x ∷ xs) known = with_items xs (with_item x known)

-- ---- examples

abbrev pub a_row : ℕ → State → Option State → Item
a_row n s next = Committed n 0 s next

-- a start of an instance that fails, and one that is given up
abbrev pub failed_start : ℕ → List Item
failed_start n = a_row n Offline (Some Online) ∷ a_row n Offline None ∷ []

abbrev pub last_start : ℕ → List Item
last_start n = a_row n Offline (Some Online) ∷ a_row n Maintenance None ∷ []

abbrev pub tells : List Item → Option MaintenanceCause → Type 0
tells trail why = cause (rows_of 1 trail) ≡ why

-- after two failed starts the third is one too many; after one, or two of another instance, it failed for good
abbrev pub StartsAreCounted : Type 0
StartsAreCounted =
    tells (a_row 1 Offline None ∷ [] ++ failed_start 1 ++ failed_start 1 ++ last_start 1) (Some StartsFailed)
    × tells (a_row 1 Offline None ∷ [] ++ failed_start 1 ++ failed_start 2 ++ last_start 1) (Some StartFailed)

-- a start that succeeds ends the count
abbrev pub SuccessEndsTheCount : Type 0
SuccessEndsTheCount =
    tells (failed_start 1 ++ failed_start 1 ++ a_row 1 Offline (Some Online) ∷ a_row 1 Online None
    ∷ a_row 1 Online (Some Offline) ∷ a_row 1 Offline None ∷ [] ++ last_start 1) (Some StartFailed)

-- a stop that was to lead elsewhere failed; one that was to lead there did not
abbrev pub StopsAreTold : Type 0
StopsAreTold =
    tells (a_row 1 Online (Some Offline) ∷ a_row 1 Maintenance None ∷ []) (Some StopFailed)
    × tells (a_row 1 Online (Some Maintenance) ∷ a_row 1 Maintenance None ∷ []) (Some Stopped)

-- without anything under way it was moved there
abbrev pub MovesAreTold : Type 0
MovesAreTold = tells (a_row 1 Offline None ∷ a_row 1 Maintenance None ∷ []) (Some Moved)

-- a row in another state has no cause, and so has the first that is shown
abbrev pub OthersHaveNone : Type 0
OthersHaveNone = tells (last_start 1 ++ a_row 1 Offline None ∷ []) None × tells (a_row 1 Maintenance None ∷ []) None

-- Why an instance is in maintenance, by its trail and by what else is known of it.
use Rattle.std.specs.Prelude.{ℕ, ◌==◌, ◌&&◌, not, List, ◌++◌, Bool, true, false, find, Option, Some, None, codes, if◌then◌else◌, option_map}
use Rattle.std.specs.Fmt.{decimal}
use Rattle.smf_contract.specs.Entries.{Contracts}
use Rattle.smf_model.specs.Contents.{Holdings}
use Rattle.smf_model.specs.declared.held.InstanceEntry.{InstanceEntry}
use Rattle.smf_state.specs.declared.state.Cause.{Cause}
use Rattle.smf_state.specs.declared.state.Cause.TheVariants.{Config}
use Rattle.smf_watch.specs.declared.causes.KnownRow.{KnownRow}
use Rattle.smf_watch.specs.declared.causes.MaintenanceCause.{MaintenanceCause}
use Rattle.smf_watch.specs.declared.causes.MaintenanceCause.TheVariants as causes
use Rattle.smf_watch.specs.declared.maintenance.Circumstances.{Circumstances}
use Rattle.smf_watch.specs.declared.maintenance.MaintenanceReason.{MaintenanceReason}
use Rattle.smf_watch.specs.declared.maintenance.MaintenanceReason.TheVariants.{StartsFailed, StartExited, StartFailed, StopFailed, TooQuick, Marked, Faulty}
use Rattle.smf_watch.specs.declared.retries.Retry.{Retry}
use Rattle.smf_watch.specs.declared.retries.RetryStage.{RetryStage}
use Rattle.smf_watch.specs.declared.retries.RetryStage.TheVariants as stages
use Rattle.smf_watch.specs.Bounds.{is_entry}
use Rattle.smf_watch.specs.LastStart.{final_code}
use Rattle.smf_watch.specs.Retries.{is_retry_of}

-- a start was given up: its code is told if no further start would succeed
abbrev pub start_by : Option ℕ → MaintenanceReason → MaintenanceReason
start_by (Some code) otherwise = StartExited code
start_by None otherwise = otherwise

-- it did not run: the server marked it, or it has a fault, or an administrator marked it
abbrev pub moved_by : Bool → Bool → MaintenanceReason
moved_by marked faulty = if marked then TooQuick else if faulty then Faulty else Marked

abbrev pub is_config : Option Cause → Bool
is_config (Some Config) = true
is_config _ = false

-- it ran: the stop says whether it has a fault
abbrev pub stopped_by : Option Cause → Bool → MaintenanceReason
stopped_by why marked = moved_by (marked && not (is_config why)) (is_config why)

abbrev pub reason_by : MaintenanceCause → Circumstances → MaintenanceReason
reason_by causes.StartsFailed c = start_by c.code StartsFailed
reason_by causes.StartFailed c = start_by c.code StartFailed
reason_by causes.StopFailed c = StopFailed
reason_by causes.Stopped c = stopped_by c.cause c.is_marked
reason_by causes.Moved c = moved_by c.is_marked c.is_faulty

-- the server marked an instance that now is, or soon waits, in this row
abbrev pub is_marked_at : RetryStage → ℕ → ℕ → Bool
is_marked_at stages.Marked waits row = true
is_marked_at stages.Waits waits row = waits == row
is_marked_at _ waits row = false

abbrev pub is_marked_in : Option Retry → ℕ → Bool
is_marked_in None row = false
is_marked_in (Some r) row = is_marked_at r.stage r.row row

-- it still stands in the row
abbrev pub stands_as : InstanceEntry → KnownRow → Bool
stands_as e k = e.instance.row.number == k.row.number

abbrev pub circumstances : InstanceEntry → Contracts → List Retry → Bool → KnownRow → Circumstances
circumstances e t rs faulty k =
    record {
      cause = e.instance.row.cause;
      code = final_code t k.instance;
      is_marked = is_marked_in (find (is_retry_of k.instance) rs) k.row.number;
      is_faulty = faulty;
    }

abbrev pub reason_in : InstanceEntry → Contracts → List Retry → Bool → KnownRow → Option MaintenanceReason
reason_in e t rs faulty k =
    if stands_as e k then option_map (λ why. reason_by why (circumstances e t rs faulty k)) k.cause else None

abbrev pub reason_of_entry : Option InstanceEntry → Contracts → List Retry → Bool → KnownRow → Option MaintenanceReason
reason_of_entry None t rs faulty k = None
reason_of_entry (Some e) t rs faulty k = reason_in e t rs faulty k

-- why the instance of a row is in maintenance, if it is in that row
abbrev pub reason_of : Holdings → Contracts → List Retry → Bool → KnownRow → Option MaintenanceReason
reason_of h t rs faulty k = reason_of_entry (find (is_entry k.instance) h.instances) t rs faulty k

abbrev pub reason_text : MaintenanceReason → List ℕ
reason_text StartsFailed = codes "method start failed repeatedly"
reason_text (StartExited code) = codes "method start failed for good, with exit status " ++ decimal code
reason_text StartFailed = codes "method start failed"
reason_text StopFailed = codes "method stop failed"
reason_text TooQuick = codes "it restarted too quickly"
reason_text Marked = codes "an administrator marked it"
reason_text Faulty = codes "its configuration has a fault"

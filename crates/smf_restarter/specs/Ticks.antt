-- The turns of a restarter, for itself and for an instance, and when it has nothing left to do.
use Rattle.std.specs.Prelude.{ℕ, ◌&&◌, ◌||◌, not, [], Bool, true, false, if◌then◌else◌, Option, Some, None, is_none, is_some, Result, Ok, Err}
use Rattle.std.specs.List.{list_all}
use Rattle.smf_state.specs.declared.row.Row.{Row}
use Rattle.smf_state.specs.declared.state.State.{State}
use Rattle.smf_state.specs.declared.state.State.TheVariants.{Offline, Online}
use Rattle.smf_state.specs.declared.state.Duration.{Duration}
use Rattle.smf_state.specs.declared.state.Duration.TheVariants.{Contract, Transient, Child}
use Rattle.smf_state.specs.declared.step.Step.{Step}
use Rattle.smf_state.specs.declared.step.Step.TheVariants as steps
use Rattle.smf_state.specs.Rows.{is_steady, same_state}
use Rattle.smf_state.specs.States.{runs}
use Rattle.smf_contract.specs.declared.cookie.CookieFault.{CookieFault}
use Rattle.smf_contract.specs.declared.cookie.Method.{Method}
use Rattle.smf_contract.specs.declared.cookie.Method.TheVariants as methods
use Rattle.smf_contract.specs.declared.terms.Terms.{Terms}
use Rattle.smf_contract.specs.Cookies.{bits_of_cookie}
use Rattle.smf_method.specs.declared.command.Builtin.{Builtin}
use Rattle.smf_method.specs.declared.command.Builtin.TheVariants as builtins
use Rattle.smf_method.specs.Commands.{builtin}
use Rattle.smf_wire.specs.declared.message.Message.TheVariants as messages
use Rattle.smf_restarter.specs.declared.known.After.TheVariants as afters
use Rattle.smf_restarter.specs.declared.known.Drain.{Drain}
use Rattle.smf_restarter.specs.declared.known.Drain.TheVariants as drains
use Rattle.smf_restarter.specs.declared.known.Ending.{Ending}
use Rattle.smf_restarter.specs.declared.known.KnownInstance.{KnownInstance}
use Rattle.smf_restarter.specs.declared.known.KnownRun.{KnownRun}
use Rattle.smf_restarter.specs.declared.known.Owed.{Owed}
use Rattle.smf_restarter.specs.declared.known.Phase.{Phase}
use Rattle.smf_restarter.specs.declared.known.Phase.TheVariants.{Idle, Waiting, Owes, Running, Ending as Ends}
use Rattle.smf_restarter.specs.declared.known.Stage.{Stage}
use Rattle.smf_restarter.specs.declared.known.Stage.TheVariants.{Joining, Listing, Up}
use Rattle.smf_restarter.specs.declared.reply.Begun.{Begun}
use Rattle.smf_restarter.specs.declared.reply.Call.{Call}
use Rattle.smf_restarter.specs.declared.reply.Call.TheVariants as calls
use Rattle.smf_restarter.specs.declared.reply.Course.TheVariants as courses
use Rattle.smf_restarter.specs.declared.reply.Reply.{Reply}
use Rattle.smf_restarter.specs.Changes.{reply_with_method, reply_with_call, nothing, reply_with_message, change_of_course, no_change}
use Rattle.smf_restarter.specs.Ends.{end_on_success}
use Rattle.smf_restarter.specs.Knowledge.{Knowledge, known_instance}
use Rattle.smf_restarter.specs.Orders.{reply_with_proposal}
use Rattle.smf_restarter.specs.Runs.{ignores_core, ignores_signal, is_empty, known_run, orphan}

-- ---- the restarter itself

-- it asks for its rows, and then for the contracts
unfoldable pub own_tick : Knowledge → Stage → Reply
own_tick k Joining = reply_with_message (messages.Join k.name k.launch)
own_tick k Listing = reply_with_call calls.List
own_tick k Up = nothing

-- ---- methods that are begun

-- the kinds of failure that end all members, as the bits of an event set: core 8, signal 16, hwerr 32
abbrev pub fatal_bits : ℕ → ℕ
fatal_bits ignore =
    if ignores_core ignore then (if ignores_signal ignore then 32 else 48)
    else (if ignores_signal ignore then 40 else 56)

abbrev pub fatal_if : Duration → ℕ → ℕ
fatal_if Contract ignore = fatal_bits ignore
fatal_if Transient ignore = 0
fatal_if Child ignore = 0

-- a failure of one member is fatal to the start contract of a contract service, and to no other
abbrev pub fatal_of : Method → Row → ℕ
fatal_of methods.Start r = fatal_if r.duration r.ignore
fatal_of methods.Stop r = 0
fatal_of methods.Refresh r = 0

-- empty, core, signal and hwerr are critical, and a contract whose holder is gone waits to be adopted
abbrev pub terms_of : Method → Row → Terms
terms_of method r =
    record {
      informative = record { 0 = 0 };
      critical = record { 0 = 57 };
      fatal = record { 0 = fatal_of method r };
      inherit = true;
      noorphan = false;
    }

abbrev pub begun_of : KnownInstance → Owed → Begun
begun_of i o =
    record { instance = i.instance; run = o.run; method = o.method; revision = o.revision; command = o.call.command }

-- a run whose cookie has no form begins nothing
abbrev pub spawning_by : KnownInstance → Owed → Result ℕ CookieFault → Reply
spawning_by i o (Err e) = nothing
spawning_by i o (Ok cookie) = reply_with_method (begun_of i o) (calls.Spawn cookie (terms_of o.method i.row)) no_change

abbrev pub reply_with_spawn : KnownInstance → Owed → Reply
reply_with_spawn i o =
    spawning_by i o (bits_of_cookie (record { instance = i.instance; run = o.run; method = o.method }))

-- the kill of a run's contract, if the run is known and not known empty
abbrev pub kill_of : Option KnownRun → Call
kill_of None = calls.Nothing
kill_of (Some r) = if r.empty then calls.Nothing else calls.Kill r.contract

-- a built-in succeeds at once; `:kill` asks for a kill of the start contract
abbrev pub built_in : KnownInstance → Owed → Call → Reply
built_in i o call =
    reply_with_method (begun_of i o) call (change_of_course i.instance (courses.Ending (end_on_success i.row o.method)))

abbrev pub begun_by : Knowledge → KnownInstance → Owed → Option Builtin → Reply
begun_by k i o None = reply_with_spawn i o
begun_by k i o (Some builtins.True) = built_in i o calls.Nothing
begun_by k i o (Some builtins.Kill) = built_in i o (kill_of (known_run k i.instance i.row.live))

-- ---- ends

-- the first of the two runs whose contract is not known empty, as what is asked of it
abbrev pub first_call : Call → Call → Call
first_call calls.Nothing second = second
first_call first second = first

abbrev pub live_call : Knowledge → KnownInstance → Call
live_call k i = kill_of (known_run k i.instance i.row.live)

abbrev pub side_call : Knowledge → KnownInstance → Call
side_call k i = kill_of (known_run k i.instance i.row.side)

-- the call on the runs that have to be drained, live before side
abbrev pub drain_call : Knowledge → KnownInstance → Drain → Call
drain_call k i drains.Nothing = calls.Nothing
drain_call k i drains.Live = live_call k i
drain_call k i drains.Side = side_call k i
drain_call k i drains.Both = first_call (live_call k i) (side_call k i)

-- the live run of a start that ends online is kept if its contract is known and, for a transient service, not empty
abbrev pub keeps_run : Duration → Option KnownRun → Bool
keeps_run duration None = false
keeps_run Transient (Some r) = not r.empty
keeps_run Contract (Some r) = true
keeps_run Child (Some r) = true

abbrev pub leads_to : Option State → State → Bool
leads_to None to = false
leads_to (Some next) to = same_state next to

-- a refresh is under way, and this is its end
abbrev pub is_refresh_end : Row → State → Bool
is_refresh_end r to = runs r.state && same_state to r.state && leads_to r.next r.state

-- the end of a refresh keeps the live run
abbrev pub keeps : Row → State → Option KnownRun → Bool
keeps r to live =
    if same_state r.state Offline then same_state to Online && keeps_run r.duration live else is_refresh_end r to

abbrev pub end_step : Row → Ending → Option KnownRun → Step
end_step r e live = steps.End e.to (keeps r e.to live) e.failed e.cause

abbrev pub ending_by : Knowledge → KnownInstance → Ending → Call → Reply
ending_by k i e calls.Nothing =
    reply_with_proposal k i (end_step i.row e (known_run k i.instance i.row.live)) afters.Idle []
ending_by k i e call = reply_with_call call

abbrev pub reply_with_end : Knowledge → KnownInstance → Ending → Reply
reply_with_end k i e = ending_by k i e (drain_call k i e.drain)

-- ---- notes

abbrev pub failed_ask : ℕ
failed_ask = 4

abbrev pub exited_ask : ℕ
exited_ask = 8

abbrev pub is_failed : Option KnownRun → Bool
is_failed None = false
is_failed (Some r) = r.failed

abbrev pub is_ended : Option KnownRun → Bool
is_ended None = false
is_ended (Some r) = r.ended

-- the bits that note the end of a live run, or of its first process, by the duration of the service
abbrev pub note_bits : Duration → Option KnownRun → Option ℕ
note_bits Contract live = if is_empty live || is_failed live then Some failed_ask else None
note_bits Child live = if is_empty live || is_ended live then Some exited_ask else None
note_bits Transient live = if is_empty live then Some 0 else None

-- it can be due only if the instance runs with a live run, and nothing is under way
abbrev pub note_due : Row → Option KnownRun → Option ℕ
note_due r live = if is_steady r && is_some r.live then note_bits r.duration live else None

abbrev pub noted_by : Knowledge → KnownInstance → Option KnownRun → Option ℕ → Reply
noted_by k i live None = nothing
noted_by k i live (Some bits) =
    reply_with_proposal k i (steps.Note (record { 0 = bits }) (not (is_empty live))) afters.Idle []

abbrev pub note : Knowledge → KnownInstance → Option KnownRun → Reply
note k i live = noted_by k i live (note_due i.row live)

-- ---- a tick of an instance

abbrev pub adopting_or : Option KnownRun → Reply → Reply
adopting_or None otherwise = otherwise
adopting_or (Some r) otherwise = reply_with_call (calls.Adopt r.contract)

-- before all else an orphan is adopted, unless a method runs or an answer is awaited
abbrev pub ticked_in : Knowledge → KnownInstance → Phase → Reply
ticked_in k i (Waiting p after) = reply_with_message (messages.Propose p)
ticked_in k i (Running m) = nothing
ticked_in k i (Owes o) = adopting_or (orphan k i.instance) (begun_by k i o (builtin o.call.command))
ticked_in k i (Ends e) = adopting_or (orphan k i.instance) (reply_with_end k i e)
ticked_in k i Idle = adopting_or (orphan k i.instance) (note k i (known_run k i.instance i.row.live))

abbrev pub ticked_known : Knowledge → Option KnownInstance → Reply
ticked_known k None = nothing
ticked_known k (Some i) = ticked_in k i i.phase

abbrev pub ticked_up : Knowledge → ℕ → Stage → Reply
ticked_up k n Up = ticked_known k (known_instance k n)
ticked_up k n _ = nothing

unfoldable pub reply_to_tick : Knowledge → ℕ → Reply
reply_to_tick k n = ticked_up k n k.stage

-- ---- at rest

abbrev pub rests_idle : Knowledge → KnownInstance → Bool
rests_idle k i = is_none (orphan k i.instance) && is_none (note_due i.row (known_run k i.instance i.row.live))

abbrev pub rests_in : Knowledge → KnownInstance → Phase → Bool
rests_in k i Idle = rests_idle k i
rests_in k i (Running m) = true
rests_in k i _ = false

abbrev pub rests : Knowledge → KnownInstance → Bool
rests k i = rests_in k i i.phase

abbrev pub is_up : Stage → Bool
is_up Up = true
is_up _ = false

-- up, and nothing awaited or owed
unfoldable pub at_rest : Knowledge → Bool
at_rest k = is_up k.stage && list_all (rests k) k.instances

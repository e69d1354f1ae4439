-- The changes that a restarter makes on the answers to its calls, and on the reports of its contracts.
use Rattle.std.specs.Prelude.{ℕ, ◌==◌, ◌&&◌, ◌||◌, not, List, map, flat_map, Bool, true, false, if◌then◌else◌, find, Option, Some, None, is_some}
use Rattle.smf_state.specs.declared.row.Row.{Row}
use Rattle.smf_state.specs.declared.state.State.{State}
use Rattle.smf_state.specs.declared.state.State.TheVariants.{Offline, Online}
use Rattle.smf_state.specs.declared.state.Duration.{Duration}
use Rattle.smf_state.specs.declared.state.Duration.TheVariants.{Contract, Child}
use Rattle.smf_state.specs.Rows.{same_state}
use Rattle.smf_contract.specs.declared.contract.Report.{Report}
use Rattle.smf_contract.specs.declared.contract.Status.{Status}
use Rattle.smf_contract.specs.declared.cookie.Cookie.{Cookie}
use Rattle.smf_contract.specs.declared.cookie.Method.{Method}
use Rattle.smf_contract.specs.declared.cookie.Method.TheVariants as methods
use Rattle.smf_contract.specs.declared.event.EventKind.{EventKind}
use Rattle.smf_contract.specs.declared.event.EventKind.TheVariants as kinds
use Rattle.smf_contract.specs.declared.event.Exit.{Exit}
use Rattle.smf_contract.specs.Cookies.{cookie_of_bits}
use Rattle.smf_method.specs.declared.outcome.MethodOutcome.{MethodOutcome}
use Rattle.smf_method.specs.declared.outcome.MethodOutcome.TheVariants.{Good, Retry, Fatal}
use Rattle.smf_method.specs.Outcomes.{outcome_of}
use Rattle.smf_restarter.specs.declared.known.Ending.{Ending}
use Rattle.smf_restarter.specs.declared.known.KnownInstance.{KnownInstance}
use Rattle.smf_restarter.specs.declared.known.KnownRun.{KnownRun}
use Rattle.smf_restarter.specs.declared.known.Owed.{Owed}
use Rattle.smf_restarter.specs.declared.known.Phase.{Phase}
use Rattle.smf_restarter.specs.declared.known.Phase.TheVariants.{Idle, Owes, Running, Ending as Ends}
use Rattle.smf_restarter.specs.declared.known.RunningMethod.{RunningMethod}
use Rattle.smf_restarter.specs.declared.known.Stage.{Stage}
use Rattle.smf_restarter.specs.declared.known.Stage.TheVariants.{Listing, Up}
use Rattle.smf_restarter.specs.declared.reply.Answer.{Answer}
use Rattle.smf_restarter.specs.declared.reply.Answer.TheVariants as answers
use Rattle.smf_restarter.specs.declared.reply.KnowledgeChange.{KnowledgeChange}
use Rattle.smf_restarter.specs.declared.reply.Course.{Course}
use Rattle.smf_restarter.specs.declared.reply.Course.TheVariants as courses
use Rattle.smf_restarter.specs.declared.reply.CourseChange.{CourseChange}
use Rattle.smf_restarter.specs.Changes.{change_of_run, change_of_course, no_change}
use Rattle.smf_restarter.specs.Ends.{ended_refresh, ended_start, ended_stop, failed_with, not_followed, start_succeeded, end_on_success}
use Rattle.smf_restarter.specs.Knowledge.{Knowledge, known_instance}
use Rattle.smf_restarter.specs.Runs.{is_exit_of, is_failure, listed_run, run_at}

-- ---- the list of contracts

-- the phase once the contracts are listed: the restarter ends a step that was under way at its launch
abbrev pub phase_under : Row → Option State → Phase
phase_under r None = Idle
phase_under r (Some next) =
    if same_state next r.state then Ends (ended_refresh r)
    else if same_state r.state Offline && same_state next Online then Ends (ended_start r)
    else Ends (ended_stop r next)

abbrev pub with_phase_of_row : KnownInstance → KnownInstance
with_phase_of_row i = record i { phase = phase_under i.row i.row.next }

abbrev pub listed_in : Knowledge → List Status → Stage → KnowledgeChange
listed_in k ss Listing =
    record no_change { stage = Some Up; put = map with_phase_of_row k.instances; listed = flat_map (listed_run k) ss }
listed_in k ss _ = no_change

-- the contracts were listed
unfoldable pub change_on_list : Knowledge → List Status → KnowledgeChange
change_on_list k ss = listed_in k ss k.stage

-- ---- answers of the other calls

abbrev pub is_of_contract : ℕ → KnownRun → Bool
is_of_contract c r = r.contract == c

abbrev pub adopted_run : Option KnownRun → KnowledgeChange
adopted_run None = no_change
adopted_run (Some r) = change_of_run (record r { held = true })

abbrev pub run_begun : ℕ → Owed → ℕ → KnownRun
run_begun n o c =
    record {
      key = record { instance = n; run = o.run };
      contract = c;
      held = true;
      empty = false;
      failed = false;
      ended = false;
    }

abbrev pub running_method : Owed → RunningMethod
running_method o = record { method = o.method; run = o.run; timeout = o.call.timeout }

-- the start of a child service has succeeded as soon as its process is there; any other method runs until it ends
abbrev pub started_as : Owed → Duration → Method → Course
started_as o Child methods.Start = courses.Ending start_succeeded
started_as o duration method = courses.Running (running_method o)

-- the change of an instance that owes a method, by the answer to its call
abbrev pub answered_owed : KnownInstance → Owed → Answer → KnowledgeChange
answered_owed i o (answers.Spawned c) =
    record (change_of_course i.instance (started_as o i.row.duration o.method))
    { run = Some (run_begun i.instance o c) }
answered_owed i o answers.Refused = change_of_course i.instance (courses.Ending (failed_with i.row o.method false))
answered_owed i o answers.NotFollowed = change_of_course i.instance (courses.Ending (not_followed i.row o.method))
answered_owed i o _ = no_change

abbrev pub answered_in : KnownInstance → Answer → Phase → KnowledgeChange
answered_in i answer (Owes o) = answered_owed i o answer
answered_in i answer _ = no_change

abbrev pub answered_known : Answer → Option KnownInstance → KnowledgeChange
answered_known answer None = no_change
answered_known answer (Some i) = answered_in i answer i.phase

-- the answer to what a tick of an instance asked for
unfoldable pub change_on_answer : Knowledge → ℕ → Answer → KnowledgeChange
change_on_answer k n (answers.Adopted c) = adopted_run (find (is_of_contract c) k.runs)
change_on_answer k n answer = answered_known answer (known_instance k n)

-- ---- reports

abbrev pub run_reported : Report → Cookie → KnownRun
run_reported r c =
    record {
      key = record { instance = c.instance; run = c.run };
      contract = r.contract.id;
      held = true;
      empty = false;
      failed = false;
      ended = false;
    }

abbrev pub run_or : Option KnownRun → KnownRun → KnownRun
run_or None other = other
run_or (Some r) other = r

abbrev pub is_empty_event : EventKind → Bool
is_empty_event kinds.Empty = true
is_empty_event _ = false

-- an event that is a failure of an instance that is known
abbrev pub is_failure_of : Option KnownInstance → EventKind → Bool
is_failure_of None kind = false
is_failure_of (Some i) kind = is_failure i.row.ignore kind

-- the run of a report as the restarter knew it before
abbrev pub run_before : Knowledge → Report → Cookie → KnownRun
run_before k r c = run_or (run_at k c.instance c.run) (run_reported r c)

-- the run as the restarter knows it after an event of its contract
abbrev pub run_after : Knowledge → Report → Cookie → KnownRun → KnownRun
run_after k r c old =
    record old {
      empty = old.empty || is_empty_event r.event.kind;
      failed = old.failed || is_failure_of (known_instance k c.instance) r.event.kind;
      ended = old.ended || is_exit_of r.contract.first r.event.kind;
    }

-- the exit of a contract's first process
abbrev pub first_exit : ℕ → EventKind → Option Exit
first_exit first (kinds.Exit p exit) = if p == first then Some exit else None
first_exit first _ = None

-- a contract service whose start leaves no member has failed to start
abbrev pub is_left_empty : Method → Duration → Bool → Bool
is_left_empty methods.Start Contract left = not left
is_left_empty _ _ left = false

abbrev pub ended_well : Row → Method → Bool → Ending
ended_well r method left =
    if is_left_empty method r.duration left then failed_with r method false else end_on_success r method

abbrev pub end_by : Row → Method → Bool → MethodOutcome → Ending
end_by r method left Good = ended_well r method left
end_by r method left Retry = failed_with r method false
end_by r method left Fatal = failed_with r method true

abbrev pub same_method : Method → Method → Bool
same_method methods.Start methods.Start = true
same_method methods.Stop methods.Stop = true
same_method methods.Refresh methods.Refresh = true
same_method _ _ = false

-- the exit ends the method that runs, if the contract is of its own run
abbrev pub is_run_of : RunningMethod → Cookie → Bool
is_run_of m c = m.run == c.run && same_method m.method c.method

abbrev pub turn_to : KnownInstance → Ending → Option CourseChange
turn_to i e = Some (record { instance = i.instance; course = courses.Ending e })

abbrev pub turn_by : KnownInstance → Report → Cookie → RunningMethod → Option Exit → Option CourseChange
turn_by i r c m None = None
turn_by i r c m (Some exit) =
    if is_run_of m c then turn_to i (end_by i.row m.method r.event.left (outcome_of m.method exit)) else None

abbrev pub turn_in : KnownInstance → Report → Cookie → Phase → Option CourseChange
turn_in i r c (Running m) = turn_by i r c m (first_exit r.contract.first r.event.kind)
turn_in i r c _ = None

abbrev pub turn_known : Report → Cookie → Option KnownInstance → Option CourseChange
turn_known r c None = None
turn_known r c (Some i) = turn_in i r c i.phase

abbrev pub turn_up : Knowledge → Report → Cookie → Stage → Option CourseChange
turn_up k r c Up = turn_known r c (known_instance k c.instance)
turn_up k r c _ = None

abbrev pub reported_as : Knowledge → Report → Option Cookie → KnowledgeChange
reported_as k r None = no_change
reported_as k r (Some c) =
    record no_change {
      turn = turn_up k r c k.stage;
      run = Some (run_after k r c (run_before k r c));
    }

-- an event of a contract was reported
unfoldable pub change_on_report : Knowledge → Report → KnowledgeChange
change_on_report k r = reported_as k r (cookie_of_bits r.contract.cookie)

-- ---- time-outs

abbrev pub timed_in : KnownInstance → Phase → KnowledgeChange
timed_in i (Running m) =
    if is_some m.timeout then change_of_course i.instance (courses.Ending (failed_with i.row m.method false))
    else no_change
timed_in i _ = no_change

abbrev pub timed_known : Option KnownInstance → KnowledgeChange
timed_known None = no_change
timed_known (Some i) = timed_in i i.phase

-- the method that runs has taken too long
unfoldable pub timed_out : Knowledge → ℕ → KnowledgeChange
timed_out k n = timed_known (known_instance k n)

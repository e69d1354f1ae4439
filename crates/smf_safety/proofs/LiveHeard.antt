-- A restarter notes only true facts of runs on a message, since they were known. A report and a time-out bring nobody
-- up.
use Rattle.std.proofs.Common.{◌==◌, ◌&&◌, nat_lt, ℕ, Bool, true, false, if◌then◌else◌, List, [], ◌∷◌, map, Option, Some, None, refl}
use Rattle.std.specs.Prelude.{is_some, option_map, option_to_list}
use Rattle.smf_contract.specs.declared.contract.Report.{Report}
use Rattle.smf_contract.specs.declared.cookie.Cookie.{Cookie}
use Rattle.smf_contract.specs.Cookies.{cookie_of_bits}
use Rattle.smf_method.specs.declared.call.MethodCall.{MethodCall}
use Rattle.smf_state.specs.declared.row.Row.{Row}
use Rattle.smf_state.specs.declared.state.Cause.{Cause}
use Rattle.smf_state.specs.declared.state.Duration.{Duration}
use Rattle.smf_state.specs.declared.state.State.{State}
use Rattle.smf_state.specs.declared.step.Step.{Step}
use Rattle.smf_state.specs.declared.step.Step.TheVariants as steps
use Rattle.smf_state.specs.Rows.{greatest_run}
use Rattle.smf_state.specs.declared.refusal.Why.{Why}
use Rattle.smf_state.specs.declared.refusal.Why.TheVariants as whys
use Rattle.smf_wire.specs.declared.message.Known.{Known}
use Rattle.smf_wire.specs.declared.message.Message.{Message}
use Rattle.smf_wire.specs.declared.message.Message.TheVariants as messages
use Rattle.smf_wire.specs.declared.order.Order.{Order}
use Rattle.smf_wire.specs.declared.order.What.{What}
use Rattle.smf_wire.specs.declared.order.What.TheVariants as whats
use Rattle.smf_restarter.specs.declared.known.After.{After}
use Rattle.smf_restarter.specs.declared.known.KnownInstance.{KnownInstance}
use Rattle.smf_restarter.specs.declared.known.KnownRun.{KnownRun}
use Rattle.smf_restarter.specs.declared.known.Phase.{Phase}
use Rattle.smf_restarter.specs.declared.known.Phase.TheVariants.{Idle, Waiting, Owes, Running, Ending as Ends}
use Rattle.smf_restarter.specs.declared.known.Stage.{Stage}
use Rattle.smf_restarter.specs.declared.known.Stage.TheVariants.{Joining, Listing, Up}
use Rattle.smf_restarter.specs.declared.reply.Course.TheVariants as courses
use Rattle.smf_restarter.specs.declared.reply.Reply.{Reply}
use Rattle.smf_restarter.specs.Answers.{change_on_report, reported_as, timed_in, timed_known, timed_out}
use Rattle.smf_restarter.specs.Changes.{nothing, reply_with_rows, change_of_course, no_change}
use Rattle.smf_restarter.specs.Ends.{failed_with}
use Rattle.smf_restarter.specs.Knowledge.{Knowledge, known_instance}
use Rattle.smf_restarter.specs.Orders.{call_with_run, greatest_serial, greatest_word, ordered_what, reply_with_proposal, proposing_if, refreshing_by, starting_if, stopping_by}
use Rattle.smf_restarter.specs.Replies.{Awaited, reply_to_ack, acked_by, anew, awaited_proposal, reply_to_message, heard_order, heard_rows, idle, reply_to_nack, nacked_by, ordered_by, ordered_in, ordered_known, refused_by, instance_of_order, run_after_note, without_failure}
use Rattle.smf_restarter.specs.Runs.{known_run}
use Rattle.smf_world.specs.declared.item.Item.{Item}
use Rattle.smf_safety.proofs.LiveKnown.{IsTrue, RunsAreTrue}
use Rattle.smf_world.proofs.LiveLists.{Each}
use Rattle.smf_safety.proofs.LiveTrue.{IsNoting, NotUp, known_true, unchanged_notes}

-- a reply lists no contracts, brings nobody up, and notes only a true run
abbrev pub Notes : List Item → Reply → Type 0
Notes t r = IsNoting t r.change

-- ---- proposals

proposing_by : (t : List Item) (k : Knowledge) (b : Bool) (i : KnownInstance) (step : Step) (after : After)
    (taken : List Known) → Notes t (proposing_if b k i step after taken)
proposing_by t k true i step after taken = record { listed = refl; stage = tt; run = tt }
proposing_by t k false i step after taken = unchanged_notes t

pub propose_notes : (t : List Item) (k : Knowledge) (i : KnownInstance) (step : Step) (after : After)
    (taken : List Known) → Notes t (reply_with_proposal k i step after taken)
propose_notes t k i step after taken =
    proposing_by t k (nat_lt k.serial greatest_serial && nat_lt i.row.number greatest_word) i step after taken

-- ---- orders

start_notes : (t : List Item) (k : Knowledge) (b : Bool) (i : KnownInstance) (o : Order) (taken : List Known)
    (call : MethodCall) (duration : Duration) (ignore : ℕ) → Notes t (starting_if b k i o taken call duration ignore)
start_notes t k true i o taken call duration ignore = propose_notes t k i _ _ taken
start_notes t k false i o taken call duration ignore = propose_notes t k i _ _ taken

stop_notes : (t : List Item) (k : Knowledge) (i : KnownInstance) (o : Order) (taken : List Known) (to : State)
    (cause : Cause) (call : Option MethodCall) → Notes t (stopping_by k i o taken to cause call)
stop_notes t k i o taken to cause (Some call) = propose_notes t k i _ _ taken
stop_notes t k i o taken to cause None = propose_notes t k i _ _ taken

refresh_notes : (t : List Item) (k : Knowledge) (i : KnownInstance) (o : Order) (taken : List Known)
    (call : Option MethodCall) → Notes t (refreshing_by k i o taken call)
refresh_notes t k i o taken (Some call) = propose_notes t k i _ _ taken
refresh_notes t k i o taken None = propose_notes t k i _ _ taken

what_notes : (t : List Item) (k : Knowledge) (i : KnownInstance) (o : Order) (taken : List Known) (x : What)
    → Notes t (ordered_what k i o taken x)
what_notes t k i o taken (whats.To state) = propose_notes t k i _ _ taken
what_notes t k i o taken (whats.Start call duration ignore) =
    start_notes t k (nat_lt i.row.last greatest_run) i o taken call duration ignore
what_notes t k i o taken (whats.Stop to cause call) = stop_notes t k i o taken to cause (call_with_run i.row call)
what_notes t k i o taken (whats.Refresh call) = refresh_notes t k i o taken (call_with_run i.row call)

idle_notes : (t : List Item) (k : Knowledge) (b greater : Bool) (i : KnownInstance) (o : Order)
    → Notes t (ordered_by b greater k i o)
idle_notes t k true greater i o = what_notes t k i o [] o.what
idle_notes t k false true i o = what_notes t k (anew i o) o (instance_of_order o ∷ []) o.what
idle_notes t k false false i o = unchanged_notes t

phase_notes : (t : List Item) (k : Knowledge) (i : KnownInstance) (o : Order) (p : Phase) → Notes t (ordered_in k i o p)
phase_notes t k i o Idle = idle_notes t k (o.row.number == i.row.number) (nat_lt i.row.number o.row.number) i o
phase_notes t k i o (Waiting p after) = unchanged_notes t
phase_notes t k i o (Owes owed) = unchanged_notes t
phase_notes t k i o (Running m) = unchanged_notes t
phase_notes t k i o (Ends x) = unchanged_notes t

known_notes : (t : List Item) (k : Knowledge) (o : Order) (x : Option KnownInstance) → Notes t (ordered_known k o x)
known_notes t k o None = what_notes t k (idle (instance_of_order o)) o (instance_of_order o ∷ []) o.what
known_notes t k o (Some i) = phase_notes t k i o i.phase

order_notes : (t : List Item) (k : Knowledge) (o : Order) (s : Stage) → Notes t (heard_order k o s)
order_notes t k o Up = known_notes t k o (known_instance k o.instance)
order_notes t k o Joining = unchanged_notes t
order_notes t k o Listing = unchanged_notes t

-- ---- rows

rows_notes : (t : List Item) (k : Knowledge) (launch : ℕ) (rows : List Known) (s : Stage)
    → Notes t (heard_rows k launch rows s)
rows_notes t k launch rows Up = unchanged_notes t
rows_notes t k launch rows Listing = unchanged_notes t
rows_notes t k launch rows Joining = by (launch == k.launch)
  where
    by : (b : Bool)
        → Notes t (if b then reply_with_rows rows (record no_change { stage = Some Listing; put = map idle rows })
        else nothing)
    by true = record { listed = refl; stage = tt; run = tt }
    by false = unchanged_notes t

-- ---- answers

-- a run that is marked no more is as alive as it was
unmarked_run : (t : List Item) (o : Option KnownRun) → Each (IsTrue t) (option_to_list o)
    → Each (IsTrue t) (option_to_list (option_map without_failure o))
unmarked_run t None a = tt
unmarked_run t (Some r) a = (record { begun = a.0.begun; dead = a.0.dead }, tt)

unmarked_true : (t : List Item) (k : Knowledge) (i : KnownInstance) (s : Step) → RunsAreTrue t k
    → Each (IsTrue t) (option_to_list (run_after_note k i s))
unmarked_true t k i (steps.Note bits keep) a =
    unmarked_run t (known_run k i.instance i.row.live) (known_true t k i.instance i.row.live a)
unmarked_true t k i (steps.Move to) a = tt
unmarked_true t k i (steps.Start run snapshot duration ignore base) a = tt
unmarked_true t k i (steps.Stop to cause run) a = tt
unmarked_true t k i (steps.Refresh run) a = tt
unmarked_true t k i (steps.End to keep failed cause) a = tt

granted_notes : (t : List Item) (k : Knowledge) (row : Row) (i : KnownInstance) (o : Option Awaited) → RunsAreTrue t k
    → Notes t (acked_by k row i o)
granted_notes t k row i None a = unchanged_notes t
granted_notes t k row i (Some x) a = record { listed = refl; stage = tt; run = unmarked_true t k i x.proposal.step a }

ack_notes : (t : List Item) (k : Knowledge) (launch serial : ℕ) (row : Row) (o : Option KnownInstance)
    → RunsAreTrue t k → Notes t (reply_to_ack k launch serial row o)
ack_notes t k launch serial row None a = unchanged_notes t
ack_notes t k launch serial row (Some i) a = granted_notes t k row i (awaited_proposal launch serial i.phase) a

refused_notes : (t : List Item) (i : KnownInstance) (why : Why) (row : Option Row) → Notes t (refused_by i why row)
refused_notes t i whys.Owner row = record { listed = refl; stage = tt; run = tt }
refused_notes t i whys.NoSuch None = record { listed = refl; stage = tt; run = tt }
refused_notes t i whys.Launch None = record { listed = refl; stage = tt; run = tt }
refused_notes t i whys.Number None = record { listed = refl; stage = tt; run = tt }
refused_notes t i whys.Snapshot None = record { listed = refl; stage = tt; run = tt }
refused_notes t i (whys.Step fault) None = record { listed = refl; stage = tt; run = tt }
refused_notes t i whys.NoSuch (Some row) = record { listed = refl; stage = tt; run = tt }
refused_notes t i whys.Launch (Some row) = record { listed = refl; stage = tt; run = tt }
refused_notes t i whys.Number (Some row) = record { listed = refl; stage = tt; run = tt }
refused_notes t i whys.Snapshot (Some row) = record { listed = refl; stage = tt; run = tt }
refused_notes t i (whys.Step fault) (Some row) = record { listed = refl; stage = tt; run = tt }

nacked_notes : (t : List Item) (i : KnownInstance) (why : Why) (row : Option Row) (o : Option Awaited)
    → Notes t (nacked_by why row i o)
nacked_notes t i why row None = unchanged_notes t
nacked_notes t i why row (Some x) = refused_notes t i why row

nack_notes : (t : List Item) (launch serial : ℕ) (why : Why) (row : Option Row) (o : Option KnownInstance)
    → Notes t (reply_to_nack launch serial why row o)
nack_notes t launch serial why row None = unchanged_notes t
nack_notes t launch serial why row (Some i) = nacked_notes t i why row (awaited_proposal launch serial i.phase)

-- on a message
pub heard_notes : (t : List Item) (k : Knowledge) (m : Message) → RunsAreTrue t k → Notes t (reply_to_message k m)
unfolding reply_to_message
heard_notes t k (messages.Rows name launch rows) a = rows_notes t k launch rows k.stage
heard_notes t k (messages.Order o) a = order_notes t k o k.stage
heard_notes t k (messages.Ack name launch serial n row) a = ack_notes t k launch serial row (known_instance k n) a
heard_notes t k (messages.Nack name launch serial n why row) a = nack_notes t launch serial why row (known_instance k n)
heard_notes t k (messages.Join name launch) a = unchanged_notes t
heard_notes t k (messages.Propose p) a = unchanged_notes t
heard_notes t k messages.AskView a = unchanged_notes t
heard_notes t k (messages.AskChange since) a = unchanged_notes t
heard_notes t k (messages.View v) a = unchanged_notes t
heard_notes t k (messages.Changes news) a = unchanged_notes t

-- ---- reports and time-outs

-- a report brings nobody up
pub reported_stage : (k : Knowledge) (r : Report) → NotUp (change_on_report k r).stage
unfolding change_on_report
reported_stage k r = by (cookie_of_bits r.contract.cookie)
  where
    by : (o : Option Cookie) → NotUp (reported_as k r o).stage
    by None = tt
    by (Some c) = tt

late_in : (t : List Item) (i : KnownInstance) (p : Phase) → IsNoting t (timed_in i p)
late_in t i Idle = unchanged_notes t
late_in t i (Waiting p after) = unchanged_notes t
late_in t i (Owes o) = unchanged_notes t
late_in t i (Ends e) = unchanged_notes t
late_in t i (Running m) = by (is_some m.timeout)
  where
    by : (b : Bool)
        → IsNoting t (if b then change_of_course i.instance (courses.Ending (failed_with i.row m.method false))
        else no_change)
    by true = record { listed = refl; stage = tt; run = tt }
    by false = unchanged_notes t

late_known : (t : List Item) (o : Option KnownInstance) → IsNoting t (timed_known o)
late_known t None = unchanged_notes t
late_known t (Some i) = late_in t i i.phase

pub timed_notes : (t : List Item) (k : Knowledge) (n : ℕ) → IsNoting t (timed_out k n)
unfolding timed_out
timed_notes t k n = late_known t (known_instance k n)

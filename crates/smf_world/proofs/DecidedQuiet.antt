-- A restarter sends joins and proposals alone.
use Rattle.std.proofs.Common.{◌==◌, ◌&&◌, nat_lt, ℕ, Bool, true, false, if◌then◌else◌, List, [], ◌∷◌, map, Option, Some, None, Result, Ok, Err}
use Rattle.smf_contract.specs.declared.cookie.CookieFault.{CookieFault}
use Rattle.smf_contract.specs.Cookies.{bits_of_cookie}
use Rattle.smf_method.specs.declared.command.Builtin.{Builtin}
use Rattle.smf_method.specs.declared.command.Builtin.TheVariants as builtins
use Rattle.smf_method.specs.declared.call.MethodCall.{MethodCall}
use Rattle.smf_method.specs.Commands.{builtin}
use Rattle.smf_state.specs.declared.row.Row.{Row}
use Rattle.smf_state.specs.declared.state.Cause.{Cause}
use Rattle.smf_state.specs.declared.state.Duration.{Duration}
use Rattle.smf_state.specs.declared.state.State.{State}
use Rattle.smf_state.specs.declared.step.Step.{Step}
use Rattle.smf_state.specs.Rows.{greatest_run}
use Rattle.smf_state.specs.declared.refusal.Why.{Why}
use Rattle.smf_state.specs.declared.refusal.Why.TheVariants as whys
use Rattle.smf_wire.specs.declared.message.Known.{Known}
use Rattle.smf_wire.specs.declared.message.Message.{Message}
use Rattle.smf_wire.specs.declared.message.Message.TheVariants as messages
use Rattle.smf_wire.specs.declared.order.Order.{Order}
use Rattle.smf_wire.specs.declared.order.What.{What}
use Rattle.smf_wire.specs.declared.order.What.TheVariants as whats
use Rattle.smf_restarter.specs.declared.known.After.{After}
use Rattle.smf_restarter.specs.declared.known.Ending.{Ending}
use Rattle.smf_restarter.specs.declared.known.KnownInstance.{KnownInstance}
use Rattle.smf_restarter.specs.declared.known.KnownRun.{KnownRun}
use Rattle.smf_restarter.specs.declared.known.Owed.{Owed}
use Rattle.smf_restarter.specs.declared.known.Phase.{Phase}
use Rattle.smf_restarter.specs.declared.known.Phase.TheVariants.{Idle, Waiting, Owes, Running, Ending as Ends}
use Rattle.smf_restarter.specs.declared.known.Stage.{Stage}
use Rattle.smf_restarter.specs.declared.known.Stage.TheVariants.{Joining, Listing, Up}
use Rattle.smf_restarter.specs.declared.reply.Call.{Call}
use Rattle.smf_restarter.specs.declared.reply.Call.TheVariants as calls
use Rattle.smf_restarter.specs.declared.reply.Reply.{Reply}
use Rattle.smf_restarter.specs.Changes.{nothing, reply_with_rows, no_change}
use Rattle.smf_restarter.specs.Knowledge.{Knowledge, known_instance}
use Rattle.smf_restarter.specs.Orders.{call_with_run, greatest_serial, greatest_word, ordered_what, reply_with_proposal, proposing_if, refreshing_by, starting_if, stopping_by}
use Rattle.smf_restarter.specs.Replies.{Awaited, reply_to_ack, acked_by, anew, awaited_proposal, reply_to_message, heard_order, heard_rows, idle, reply_to_nack, nacked_by, ordered_by, ordered_in, ordered_known, refused_by, instance_of_order}
use Rattle.smf_restarter.specs.Runs.{known_run, orphan}
use Rattle.smf_restarter.specs.Ticks.{adopting_or, begun_by, drain_call, ending_by, noted_by, own_tick, spawning_by, reply_to_tick, ticked_in, ticked_known, ticked_up}
use Rattle.smf_world.proofs.LiveLists.{Each}

-- a join or a proposal
abbrev pub IsAsked : Message → Type 0
IsAsked (messages.Join name launch) = Unit {0}
IsAsked (messages.Propose p) = Unit {0}
IsAsked _ = ⊥

abbrev pub Quiet : Reply → Type 0
Quiet r = Each IsAsked r.messages

-- neither a view, nor changes, nor an order
abbrev pub IsQuiet : Message → Type 0
IsQuiet (messages.View v) = ⊥
IsQuiet (messages.Changes news) = ⊥
IsQuiet (messages.Order o) = ⊥
IsQuiet _ = Unit {0}

pub asked_quiet : (m : Message) → IsAsked m → IsQuiet m
asked_quiet (messages.Join name launch) a = tt
asked_quiet (messages.Propose p) a = tt
asked_quiet (messages.Rows name launch rows) a = tt
asked_quiet (messages.Ack name launch serial n row) a = tt
asked_quiet (messages.Nack name launch serial n why row) a = tt
asked_quiet messages.AskView a = tt
asked_quiet (messages.AskChange since) a = tt
asked_quiet (messages.View v) a = a
asked_quiet (messages.Changes news) a = a
asked_quiet (messages.Order o) a = a

proposes_if : (b : Bool) (k : Knowledge) (i : KnownInstance) (step : Step) (after : After) (taken : List Known)
    → Quiet (proposing_if b k i step after taken)
proposes_if true k i step after taken = (tt, tt)
proposes_if false k i step after taken = tt

proposes : (k : Knowledge) (i : KnownInstance) (step : Step) (after : After) (taken : List Known)
    → Quiet (reply_with_proposal k i step after taken)
proposes k i step after taken =
    proposes_if (nat_lt k.serial greatest_serial && nat_lt i.row.number greatest_word) k i step after taken

starts_if : (b : Bool) (k : Knowledge) (i : KnownInstance) (o : Order) (taken : List Known) (call : MethodCall)
    (duration : Duration) (ignore : ℕ) → Quiet (starting_if b k i o taken call duration ignore)
starts_if true k i o taken call duration ignore = proposes k i _ _ taken
starts_if false k i o taken call duration ignore = proposes k i _ _ taken

stops : (k : Knowledge) (i : KnownInstance) (o : Order) (taken : List Known) (to : State) (cause : Cause)
    (call : Option MethodCall) → Quiet (stopping_by k i o taken to cause call)
stops k i o taken to cause None = proposes k i _ _ taken
stops k i o taken to cause (Some call) = proposes k i _ _ taken

refreshes : (k : Knowledge) (i : KnownInstance) (o : Order) (taken : List Known) (call : Option MethodCall)
    → Quiet (refreshing_by k i o taken call)
refreshes k i o taken None = proposes k i _ _ taken
refreshes k i o taken (Some call) = proposes k i _ _ taken

by_what : (k : Knowledge) (i : KnownInstance) (o : Order) (taken : List Known) (what : What)
    → Quiet (ordered_what k i o taken what)
by_what k i o taken (whats.To state) = proposes k i _ _ taken
by_what k i o taken (whats.Start call duration ignore) =
    starts_if (nat_lt i.row.last greatest_run) k i o taken call duration ignore
by_what k i o taken (whats.Stop to cause call) = stops k i o taken to cause (call_with_run i.row call)
by_what k i o taken (whats.Refresh call) = refreshes k i o taken (call_with_run i.row call)

is_idle : (b greater : Bool) (k : Knowledge) (i : KnownInstance) (o : Order) → Quiet (ordered_by b greater k i o)
is_idle true greater k i o = by_what k i o [] o.what
is_idle false true k i o = by_what k (anew i o) o (instance_of_order o ∷ []) o.what
is_idle false false k i o = tt

in_phase : (k : Knowledge) (i : KnownInstance) (o : Order) (p : Phase) → Quiet (ordered_in k i o p)
in_phase k i o Idle = is_idle _ _ k i o
in_phase k i o (Waiting p after) = tt
in_phase k i o (Owes owed) = tt
in_phase k i o (Running owed) = tt
in_phase k i o (Ends e) = tt

is_known : (k : Knowledge) (o : Order) (i : Option KnownInstance) → Quiet (ordered_known k o i)
is_known k o None = by_what k (idle (instance_of_order o)) o (instance_of_order o ∷ []) o.what
is_known k o (Some i) = in_phase k i o i.phase

orders : (k : Knowledge) (o : Order) (s : Stage) → Quiet (heard_order k o s)
orders k o Up = is_known k o (known_instance k o.instance)
orders k o Joining = tt
orders k o Listing = tt

rows : (k : Knowledge) (launch : ℕ) (rows : List Known) (s : Stage) → Quiet (heard_rows k launch rows s)
rows k launch xs Up = tt
rows k launch xs Listing = tt
rows k launch xs Joining = by (launch == k.launch)
  where
    by : (b : Bool)
        → Quiet (if b then reply_with_rows xs (record no_change { stage = Some Listing; put = map idle xs })
        else nothing)
    by true = tt
    by false = tt

acked_after : (k : Knowledge) (row : Row) (i : KnownInstance) (o : Option Awaited) → Quiet (acked_by k row i o)
acked_after k row i None = tt
acked_after k row i (Some awaits) = tt

acks : (k : Knowledge) (launch serial : ℕ) (row : Row) (o : Option KnownInstance)
    → Quiet (reply_to_ack k launch serial row o)
acks k launch serial row None = tt
acks k launch serial row (Some i) = acked_after k row i (awaited_proposal launch serial i.phase)

refuses : (i : KnownInstance) (why : Why) (row : Option Row) → Quiet (refused_by i why row)
refuses i whys.Owner row = tt
refuses i why None = tt
refuses i why (Some row) = tt

nacked_after : (why : Why) (row : Option Row) (i : KnownInstance) (o : Option Awaited) → Quiet (nacked_by why row i o)
nacked_after why row i None = tt
nacked_after why row i (Some awaits) = refuses i why row

nacks : (launch serial : ℕ) (why : Why) (row : Option Row) (o : Option KnownInstance)
    → Quiet (reply_to_nack launch serial why row o)
nacks launch serial why row None = tt
nacks launch serial why row (Some i) = nacked_after why row i (awaited_proposal launch serial i.phase)

pub heard_quiet : (k : Knowledge) (m : Message) → Quiet (reply_to_message k m)
unfolding reply_to_message
heard_quiet k (messages.Rows name launch xs) = rows k launch xs k.stage
heard_quiet k (messages.Order o) = orders k o k.stage
heard_quiet k (messages.Ack name launch serial n row) = acks k launch serial row (known_instance k n)
heard_quiet k (messages.Nack name launch serial n why row) = nacks launch serial why row (known_instance k n)
heard_quiet k (messages.Join name launch) = tt
heard_quiet k (messages.Propose p) = tt
heard_quiet k messages.AskView = tt
heard_quiet k (messages.AskChange since) = tt
heard_quiet k (messages.View v) = tt
heard_quiet k (messages.Changes news) = tt

-- ---- ticks

spawns : (i : KnownInstance) (o : Owed) (r : Result ℕ CookieFault) → Quiet (spawning_by i o r)
spawns i o (Err fault) = tt
spawns i o (Ok cookie) = tt

began : (k : Knowledge) (i : KnownInstance) (o : Owed) (b : Option Builtin) → Quiet (begun_by k i o b)
began k i o None = spawns i o (bits_of_cookie (record { instance = i.instance; run = o.run; method = o.method }))
began k i o (Some builtins.True) = tt
began k i o (Some builtins.Kill) = tt

ends : (k : Knowledge) (i : KnownInstance) (e : Ending) (call : Call) → Quiet (ending_by k i e call)
ends k i e calls.Nothing = proposes k i _ _ []
ends k i e calls.List = tt
ends k i e (calls.Adopt c) = tt
ends k i e (calls.Spawn cookie terms) = tt
ends k i e (calls.Kill c) = tt

notes_by : (k : Knowledge) (i : KnownInstance) (live : Option KnownRun) (o : Option ℕ) → Quiet (noted_by k i live o)
notes_by k i live None = tt
notes_by k i live (Some bits) = proposes k i _ _ []

adopts : (o : Option KnownRun) (r : Reply) → Quiet r → Quiet (adopting_or o r)
adopts None r a = a
adopts (Some run) r a = tt

tick_phase : (k : Knowledge) (i : KnownInstance) (p : Phase) → Quiet (ticked_in k i p)
tick_phase k i (Waiting p after) = (tt, tt)
tick_phase k i (Running m) = tt
tick_phase k i (Owes o) = adopts (orphan k i.instance) _ (began k i o (builtin o.call.command))
tick_phase k i (Ends e) = adopts (orphan k i.instance) _ (ends k i e (drain_call k i e.drain))
tick_phase k i Idle = adopts (orphan k i.instance) _ (notes_by k i (known_run k i.instance i.row.live) _)

tick_known : (k : Knowledge) (o : Option KnownInstance) → Quiet (ticked_known k o)
tick_known k None = tt
tick_known k (Some i) = tick_phase k i i.phase

tick_up : (k : Knowledge) (n : ℕ) (s : Stage) → Quiet (ticked_up k n s)
tick_up k n Up = tick_known k (known_instance k n)
tick_up k n Joining = tt
tick_up k n Listing = tt

pub tick_quiet : (k : Knowledge) (n : ℕ) → Quiet (reply_to_tick k n)
unfolding reply_to_tick
tick_quiet k n = tick_up k n k.stage

pub own_quiet : (k : Knowledge) (s : Stage) → Quiet (own_tick k s)
unfolding own_tick
own_quiet k Joining = (tt, tt)
own_quiet k Listing = tt
own_quiet k Up = tt

-- A restarter takes only rows that it was told.
use Rattle.std.proofs.Common.{◌≡◌, ◌==◌, ◌&&◌, nat_lt, ℕ, Bool, true, false, cond, if◌then◌else◌, List, [], ◌∷◌, map, Option, Some, None, Result, Ok, Err, refl, sym, subst}
use Rattle.std.specs.Ordering.{nat_cmp}
use Rattle.smf_fmri.specs.ByKey.{has_key, lookup}
use Rattle.smf_fmri.proofs.Lookups.{equal_from_test}
use Rattle.smf_contract.specs.declared.cookie.CookieFault.{CookieFault}
use Rattle.smf_contract.specs.Cookies.{bits_of_cookie}
use Rattle.smf_method.specs.declared.command.Builtin.{Builtin}
use Rattle.smf_method.specs.declared.command.Builtin.TheVariants as builtins
use Rattle.smf_method.specs.Commands.{builtin}
use Rattle.smf_state.specs.declared.row.Row.{Row}
use Rattle.smf_state.specs.declared.state.Cause.{Cause}
use Rattle.smf_state.specs.declared.state.Duration.{Duration}
use Rattle.smf_state.specs.declared.state.State.{State}
use Rattle.smf_state.specs.declared.step.Step.{Step}
use Rattle.smf_state.specs.Rows.{greatest_run}
use Rattle.smf_state.specs.declared.refusal.Why.{Why}
use Rattle.smf_state.specs.declared.refusal.Why.TheVariants as whys
use Rattle.smf_wire.specs.declared.message.Known.{Known}
use Rattle.smf_wire.specs.declared.message.Message.{Message}
use Rattle.smf_wire.specs.declared.message.Message.TheVariants as messages
use Rattle.smf_method.specs.declared.call.MethodCall.{MethodCall}
use Rattle.smf_wire.specs.declared.order.Order.{Order}
use Rattle.smf_wire.specs.declared.order.What.{What}
use Rattle.smf_wire.specs.declared.order.What.TheVariants as whats
use Rattle.smf_restarter.specs.declared.known.After.{After}
use Rattle.smf_restarter.specs.declared.known.Ending.{Ending}
use Rattle.smf_restarter.specs.declared.known.KnownInstance.{KnownInstance}
use Rattle.smf_restarter.specs.declared.known.KnownRun.{KnownRun}
use Rattle.smf_restarter.specs.declared.known.Owed.{Owed}
use Rattle.smf_restarter.specs.declared.known.Phase.{Phase}
use Rattle.smf_restarter.specs.declared.known.Phase.TheVariants.{Idle, Waiting, Owes, Running, Ending as Ends}
use Rattle.smf_restarter.specs.declared.known.Stage.{Stage}
use Rattle.smf_restarter.specs.declared.known.Stage.TheVariants.{Joining, Listing, Up}
use Rattle.smf_restarter.specs.declared.reply.Call.{Call}
use Rattle.smf_restarter.specs.declared.reply.Call.TheVariants as calls
use Rattle.smf_restarter.specs.declared.reply.Reply.{Reply}
use Rattle.smf_restarter.specs.Knowledge.{Knowledge, by_instance, known_instance}
use Rattle.smf_restarter.specs.Changes.{nothing, reply_with_rows, no_change}
use Rattle.smf_restarter.specs.Orders.{call_with_run, greatest_serial, greatest_word, ordered_what, reply_with_proposal, proposing_if, refreshing_by, starting_if, stopping_by}
use Rattle.smf_restarter.specs.Replies.{Awaited, reply_to_ack, acked_by, anew, awaited_proposal, reply_to_message, heard_order, heard_rows, idle, reply_to_nack, nacked_by, ordered_by, ordered_in, ordered_known, refused_by, instance_of_order}
use Rattle.smf_restarter.specs.Runs.{known_run, orphan}
use Rattle.smf_restarter.specs.Ticks.{adopting_or, begun_by, drain_call, ending_by, noted_by, own_tick, spawning_by, reply_to_tick, ticked_in, ticked_known, ticked_up}
use Rattle.smf_world.specs.declared.item.Item.{Item}
use Rattle.smf_world.proofs.Told.{MessagesTold, MessageTold, OptionTold, RowTold, RowsTold}

-- the rows that a reply takes were told, and what it sends tells none that was not
abbrev pub ReplyTold : List Item → Reply → Type 0
ReplyTold t r = RowsTold t r.taken × MessagesTold t r.messages

proposing_told : (t : List Item) (b : Bool) (k : Knowledge) (i : KnownInstance) (step : Step) (after : After)
    (taken : List Known) → RowsTold t taken → ReplyTold t (proposing_if b k i step after taken)
proposing_told t true k i step after taken a = (a, (tt, tt))
proposing_told t false k i step after taken a = (tt, tt)

proposes : (t : List Item) (k : Knowledge) (i : KnownInstance) (step : Step) (after : After) (taken : List Known)
    → RowsTold t taken → ReplyTold t (reply_with_proposal k i step after taken)
proposes t k i step after taken a =
    proposing_told t (nat_lt k.serial greatest_serial && nat_lt i.row.number greatest_word) k i step after taken a

starts_if : (t : List Item) (b : Bool) (k : Knowledge) (i : KnownInstance) (o : Order) (taken : List Known)
    (call : MethodCall) (duration : Duration) (ignore : ℕ) → RowsTold t taken
    → ReplyTold t (starting_if b k i o taken call duration ignore)
starts_if t true k i o taken call duration ignore a = proposes t k i _ _ taken a
starts_if t false k i o taken call duration ignore a = proposes t k i _ _ taken a

stops : (t : List Item) (k : Knowledge) (i : KnownInstance) (o : Order) (taken : List Known) (to : State)
    (cause : Cause) (call : Option MethodCall) → RowsTold t taken → ReplyTold t (stopping_by k i o taken to cause call)
stops t k i o taken to cause None a = proposes t k i _ _ taken a
stops t k i o taken to cause (Some call) a = proposes t k i _ _ taken a

refreshes : (t : List Item) (k : Knowledge) (i : KnownInstance) (o : Order) (taken : List Known)
    (call : Option MethodCall) → RowsTold t taken → ReplyTold t (refreshing_by k i o taken call)
refreshes t k i o taken None a = proposes t k i _ _ taken a
refreshes t k i o taken (Some call) a = proposes t k i _ _ taken a

by_what : (t : List Item) (k : Knowledge) (i : KnownInstance) (o : Order) (taken : List Known) (what : What)
    → RowsTold t taken → ReplyTold t (ordered_what k i o taken what)
by_what t k i o taken (whats.To state) a = proposes t k i _ _ taken a
by_what t k i o taken (whats.Start call duration ignore) a =
    starts_if t (nat_lt i.row.last greatest_run) k i o taken call duration ignore a
by_what t k i o taken (whats.Stop to cause call) a = stops t k i o taken to cause (call_with_run i.row call) a
by_what t k i o taken (whats.Refresh call) a = refreshes t k i o taken (call_with_run i.row call) a

idle_told : (t : List Item) (b greater : Bool) (k : Knowledge) (i : KnownInstance) (o : Order)
    → RowTold t o.instance o.row → ReplyTold t (ordered_by b greater k i o)
idle_told t true greater k i o a = by_what t k i o [] o.what tt
idle_told t false true k i o a = by_what t k (anew i o) o (instance_of_order o ∷ []) o.what (a, tt)
idle_told t false false k i o a = (tt, tt)

in_phase : (t : List Item) (k : Knowledge) (i : KnownInstance) (o : Order) (p : Phase) → RowTold t o.instance o.row
    → ReplyTold t (ordered_in k i o p)
in_phase t k i o Idle a = idle_told t _ _ k i o a
in_phase t k i o (Waiting p after) a = (tt, tt)
in_phase t k i o (Owes owed) a = (tt, tt)
in_phase t k i o (Running owed) a = (tt, tt)
in_phase t k i o (Ends e) a = (tt, tt)

known_told : (t : List Item) (k : Knowledge) (o : Order) (i : Option KnownInstance) → RowTold t o.instance o.row
    → ReplyTold t (ordered_known k o i)
known_told t k o None a = by_what t k (idle (instance_of_order o)) o (instance_of_order o ∷ []) o.what (a, tt)
known_told t k o (Some i) a = in_phase t k i o i.phase a

order_told : (t : List Item) (k : Knowledge) (o : Order) (s : Stage) → RowTold t o.instance o.row
    → ReplyTold t (heard_order k o s)
order_told t k o Up a = known_told t k o (known_instance k o.instance) a
order_told t k o Joining a = (tt, tt)
order_told t k o Listing a = (tt, tt)

rows_heard : (t : List Item) (k : Knowledge) (launch : ℕ) (rows : List Known) (s : Stage) → RowsTold t rows
    → ReplyTold t (heard_rows k launch rows s)
rows_heard t k launch rows Up a = (tt, tt)
rows_heard t k launch rows Listing a = (tt, tt)
rows_heard t k launch rows Joining a = by (launch == k.launch)
  where
    by : (b : Bool)
        → ReplyTold t
        (if b then reply_with_rows rows (record no_change { stage = Some Listing; put = map idle rows }) else nothing)
    by true = (a, tt)
    by false = (tt, tt)

-- ---- answers

acked_after : (t : List Item) (k : Knowledge) (row : Row) (i : KnownInstance) (o : Option Awaited)
    → RowTold t i.instance row → ReplyTold t (acked_by k row i o)
acked_after t k row i None a = (tt, tt)
acked_after t k row i (Some awaits) a = ((a, tt), tt)

refused_told : (t : List Item) (i : KnownInstance) (why : Why) (row : Option Row) → OptionTold t i.instance row
    → ReplyTold t (refused_by i why row)
refused_told t i whys.Owner row a = (tt, tt)
refused_told t i why None a = (tt, tt)
refused_told t i why (Some row) a = ((a, tt), tt)

nacked_after : (t : List Item) (why : Why) (row : Option Row) (i : KnownInstance) (o : Option Awaited)
    → OptionTold t i.instance row → ReplyTold t (nacked_by why row i o)
nacked_after t why row i None a = (tt, tt)
nacked_after t why row i (Some awaits) a = refused_told t i why row a

has_the_key : (n : ℕ) (is : List KnownInstance) (i : KnownInstance) → lookup by_instance is n ≡ Some i
    → has_key by_instance n i ≡ true
has_the_key n [] i e = absurd cc
has_the_key n (j ∷ js) i e = by (has_key by_instance n j) refl e (has_the_key n js i)
  where
    by : (b : Bool) → has_key by_instance n j ≡ b → cond b (Some j) (lookup by_instance js n) ≡ Some i
        → (lookup by_instance js n ≡ Some i → has_key by_instance n i ≡ true) → has_key by_instance n i ≡ true
    by true is e ih = let same : j ≡ i = cc in subst (λ (x : KnownInstance). has_key by_instance n x ≡ true) same is
    by false is e ih = ih e

is_instance : (k : Knowledge) (n : ℕ) (i : KnownInstance) → known_instance k n ≡ Some i → i.instance ≡ n
is_instance k n i e =
    by_instance.exact i.instance n (equal_from_test (nat_cmp i.instance n) (has_the_key n k.instances i e))

ack_told : (t : List Item) (k : Knowledge) (launch serial n : ℕ) (row : Row) → RowTold t n row
    → ReplyTold t (reply_to_ack k launch serial row (known_instance k n))
ack_told t k launch serial n row a = by (known_instance k n) refl
  where
    by : (o : Option KnownInstance) → known_instance k n ≡ o → ReplyTold t (reply_to_ack k launch serial row o)
    by None e = (tt, tt)
    by (Some i) e =
        acked_after t k row i (awaited_proposal launch serial i.phase)
        (subst (λ (m : ℕ). RowTold t m row) (sym (is_instance k n i e)) a)

nack_told : (t : List Item) (k : Knowledge) (launch serial n : ℕ) (why : Why) (row : Option Row) → OptionTold t n row
    → ReplyTold t (reply_to_nack launch serial why row (known_instance k n))
nack_told t k launch serial n why row a = by (known_instance k n) refl
  where
    by : (o : Option KnownInstance) → known_instance k n ≡ o → ReplyTold t (reply_to_nack launch serial why row o)
    by None e = (tt, tt)
    by (Some i) e =
        nacked_after t why row i (awaited_proposal launch serial i.phase)
        (subst (λ (m : ℕ). OptionTold t m row) (sym (is_instance k n i e)) a)

pub heard_told : (t : List Item) (k : Knowledge) (m : Message) → MessageTold t m → ReplyTold t (reply_to_message k m)
unfolding reply_to_message
heard_told t k (messages.Rows name launch rows) a = rows_heard t k launch rows k.stage a
heard_told t k (messages.Order o) a = order_told t k o k.stage a
heard_told t k (messages.Ack name launch serial n row) a = ack_told t k launch serial n row a
heard_told t k (messages.Nack name launch serial n why row) a = nack_told t k launch serial n why row a
heard_told t k (messages.Join name launch) a = (tt, tt)
heard_told t k (messages.Propose p) a = (tt, tt)
heard_told t k messages.AskView a = (tt, tt)
heard_told t k (messages.AskChange since) a = (tt, tt)
heard_told t k (messages.View v) a = (tt, tt)
heard_told t k (messages.Changes news) a = (tt, tt)

-- ---- ticks

spawns_told : (t : List Item) (i : KnownInstance) (o : Owed) (r : Result ℕ CookieFault)
    → ReplyTold t (spawning_by i o r)
spawns_told t i o (Err fault) = (tt, tt)
spawns_told t i o (Ok cookie) = (tt, tt)

began : (t : List Item) (k : Knowledge) (i : KnownInstance) (o : Owed) (b : Option Builtin)
    → ReplyTold t (begun_by k i o b)
began t k i o None =
    spawns_told t i o (bits_of_cookie (record { instance = i.instance; run = o.run; method = o.method }))
began t k i o (Some builtins.True) = (tt, tt)
began t k i o (Some builtins.Kill) = (tt, tt)

ends : (t : List Item) (k : Knowledge) (i : KnownInstance) (e : Ending) (call : Call)
    → ReplyTold t (ending_by k i e call)
ends t k i e calls.Nothing = proposes t k i _ _ [] tt
ends t k i e calls.List = (tt, tt)
ends t k i e (calls.Adopt c) = (tt, tt)
ends t k i e (calls.Spawn cookie terms) = (tt, tt)
ends t k i e (calls.Kill c) = (tt, tt)

notes_by : (t : List Item) (k : Knowledge) (i : KnownInstance) (live : Option KnownRun) (o : Option ℕ)
    → ReplyTold t (noted_by k i live o)
notes_by t k i live None = (tt, tt)
notes_by t k i live (Some bits) = proposes t k i _ _ [] tt

adopts : (t : List Item) (o : Option KnownRun) (r : Reply) → ReplyTold t r → ReplyTold t (adopting_or o r)
adopts t None r a = a
adopts t (Some run) r a = (tt, tt)

tick_phase : (t : List Item) (k : Knowledge) (i : KnownInstance) (p : Phase) → ReplyTold t (ticked_in k i p)
tick_phase t k i (Waiting p after) = (tt, (tt, tt))
tick_phase t k i (Running m) = (tt, tt)
tick_phase t k i (Owes o) = adopts t (orphan k i.instance) _ (began t k i o (builtin o.call.command))
tick_phase t k i (Ends e) = adopts t (orphan k i.instance) _ (ends t k i e (drain_call k i e.drain))
tick_phase t k i Idle = adopts t (orphan k i.instance) _ (notes_by t k i (known_run k i.instance i.row.live) _)

tick_known : (t : List Item) (k : Knowledge) (o : Option KnownInstance) → ReplyTold t (ticked_known k o)
tick_known t k None = (tt, tt)
tick_known t k (Some i) = tick_phase t k i i.phase

tick_up : (t : List Item) (k : Knowledge) (n : ℕ) (s : Stage) → ReplyTold t (ticked_up k n s)
tick_up t k n Up = tick_known t k (known_instance k n)
tick_up t k n Joining = (tt, tt)
tick_up t k n Listing = (tt, tt)

pub tick_told : (t : List Item) (k : Knowledge) (n : ℕ) → ReplyTold t (reply_to_tick k n)
unfolding reply_to_tick
tick_told t k n = tick_up t k n k.stage

pub own_told : (t : List Item) (k : Knowledge) (s : Stage) → ReplyTold t (own_tick k s)
unfolding own_tick
own_told t k Joining = (tt, (tt, tt))
own_told t k Listing = (tt, tt)
own_told t k Up = (tt, tt)

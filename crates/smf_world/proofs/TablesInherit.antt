-- Each contract of a reached world waits to be adopted if its holder is gone, since restarters ask for no others.
use Rattle.std.proofs.Common.{◌≡◌, ◌&&◌, nat_lt, ℕ, zero, suc, Bool, true, false, if◌then◌else◌, List, [], ◌∷◌, map, position, slice_set, Option, Some, None, Result, Ok, Err, refl, subst}
use Rattle.std.specs.List.{slice_get}
use Rattle.std.specs.Option.{option_map_or}
use Rattle.smf_contract.specs.declared.call.ContractCall.{ContractCall}
use Rattle.smf_contract.specs.declared.call.ContractCall.TheVariants as calls
use Rattle.smf_contract.specs.declared.contract.Contract.{Contract}
use Rattle.smf_contract.specs.declared.contract.Holder.TheVariants.{Held, Inherited, Abandoned}
use Rattle.smf_contract.specs.declared.contract.Report.{Report}
use Rattle.smf_contract.specs.declared.cookie.CookieFault.{CookieFault}
use Rattle.smf_contract.specs.declared.event.Exit as ends
use Rattle.smf_contract.specs.declared.event.Failure.{Failure}
use Rattle.smf_contract.specs.declared.fault.ContractFault.TheVariants.{NotInherited}
use Rattle.smf_contract.specs.declared.terms.Terms.{Terms}
use Rattle.smf_contract.specs.Called.{table_after_contract_call, left_by, left_by_making}
use Rattle.smf_contract.specs.Calls.{result_of_adoption, adopted_if, new_contract, changed_at, result_of_exit, exited_in, result_of_failure, failed_in, result_of_fork, forked_in, given_up, table_without_actor, contract_held_by, is_held_by, is_inherited, result_of_kill, killed_if, next_number, result_of_spawn, spawned_as, with_holder}
use Rattle.smf_contract.specs.Entries.{Contracts, contract, has_id, home, report_of_event as report_at}
use Rattle.smf_method.specs.declared.command.Builtin.{Builtin}
use Rattle.smf_method.specs.declared.command.Builtin.TheVariants as builtins
use Rattle.smf_method.specs.Commands.{builtin}
use Rattle.smf_state.specs.declared.step.Step.{Step}
use Rattle.smf_model.specs.declared.command.Command.TheVariants as commands
use Rattle.smf_model.specs.declared.command.CommandReply.{CommandReply}
use Rattle.smf_model.specs.declared.command.CommandReply.TheVariants as replies
use Rattle.smf_wire.specs.declared.message.Known.{Known}
use Rattle.smf_wire.specs.declared.message.Message.{Message}
use Rattle.smf_wire.specs.declared.message.Message.TheVariants as messages
use Rattle.smf_restarter.specs.declared.known.After.{After}
use Rattle.smf_restarter.specs.declared.known.Drain.{Drain}
use Rattle.smf_restarter.specs.declared.known.Drain.TheVariants as drains
use Rattle.smf_restarter.specs.declared.known.Ending.{Ending}
use Rattle.smf_restarter.specs.declared.known.KnownInstance.{KnownInstance}
use Rattle.smf_restarter.specs.declared.known.KnownRun.{KnownRun}
use Rattle.smf_restarter.specs.declared.known.Owed.{Owed}
use Rattle.smf_restarter.specs.declared.known.Phase.{Phase}
use Rattle.smf_restarter.specs.declared.known.Phase.TheVariants.{Idle, Waiting, Owes, Running, Ending as Ends}
use Rattle.smf_restarter.specs.declared.known.Stage.{Stage}
use Rattle.smf_restarter.specs.declared.known.Stage.TheVariants.{Joining, Listing, Up}
use Rattle.smf_restarter.specs.declared.reply.Answer.{Answer}
use Rattle.smf_restarter.specs.declared.reply.Call.{Call}
use Rattle.smf_restarter.specs.declared.reply.Call.TheVariants as asks
use Rattle.smf_restarter.specs.declared.reply.Reply.{Reply}
use Rattle.smf_restarter.specs.Knowledge.{Knowledge, known_instance}
use Rattle.smf_restarter.specs.Orders.{greatest_serial, greatest_word, reply_with_proposal, proposing_if}
use Rattle.smf_restarter.specs.Replies.{reply_to_message}
use Rattle.smf_restarter.specs.Runs.{known_run, orphan}
use Rattle.smf_restarter.specs.Ticks.{adopting_or, begun_by, drain_call, ending_by, first_call, kill_of, live_call, noted_by, own_tick, side_call, spawning_by, reply_to_tick, ticked_in, ticked_known, ticked_up}
use Rattle.smf_restarter.specs.Ticks.{note_due}
use Rattle.smf_contract.specs.Cookies.{bits_of_cookie}
use Rattle.smf_world.specs.declared.event.Event.{Event}
use Rattle.smf_world.specs.declared.event.Event.TheVariants as events
use Rattle.smf_world.specs.declared.event.ProcessEvent.{ProcessEvent}
use Rattle.smf_world.specs.declared.event.ProcessEvent.TheVariants as processes
use Rattle.smf_world.specs.declared.event.SpawnAnswer.{SpawnAnswer}
use Rattle.smf_world.specs.declared.event.SpawnAnswer.TheVariants as spawns
use Rattle.smf_world.specs.declared.work.Work.{Work}
use Rattle.smf_world.specs.Happens.{world_after, happens}
use Rattle.smf_world.specs.Reached.{IsReached}
use Rattle.smf_world.specs.Runs.{run}
use Rattle.smf_world.specs.Worked.{work_of_turn, booted_as, call_of, work_of_call, work_of_command, work_of_crash, work_of_delivery, delivered_if, heard_by, holder, is_launched, is_spawned, work_of_join, launched_if, own_ticked, process_call, reported_by, reported_to, restarter, sent_at, ticked_for, work_of_timeout, work_on_message, work_of_event}
use Rattle.smf_world.specs.World.{World, initial_world}
use Rattle.smf_world.proofs.LiveEach.{each_both}
use Rattle.smf_world.proofs.LiveLists.{Each}

-- ---- what a restarter asks for

-- a contract that is asked for waits to be adopted
abbrev MayAsk : Call → Type 0
MayAsk (asks.Spawn cookie terms) = terms.inherit ≡ true
MayAsk _ = Unit {0}

kills : (o : Option KnownRun) → MayAsk (kill_of o)
kills None = tt
kills (Some r) = by r.empty
  where
    by : (b : Bool) → MayAsk (if b then asks.Nothing else asks.Kill r.contract)
    by true = tt
    by false = tt

first_kills : (a b : Call) → MayAsk a → MayAsk b → MayAsk (first_call a b)
first_kills asks.Nothing b p q = q
first_kills asks.List b p q = p
first_kills (asks.Adopt c) b p q = p
first_kills (asks.Spawn cookie terms) b p q = p
first_kills (asks.Kill c) b p q = p

drains_kill : (k : Knowledge) (i : KnownInstance) (d : Drain) → MayAsk (drain_call k i d)
drains_kill k i drains.Nothing = tt
drains_kill k i drains.Live = kills (known_run k i.instance i.row.live)
drains_kill k i drains.Side = kills (known_run k i.instance i.row.side)
drains_kill k i drains.Both =
    first_kills (live_call k i) (side_call k i) (kills (known_run k i.instance i.row.live))
    (kills (known_run k i.instance i.row.side))

proposes : (k : Knowledge) (i : KnownInstance) (step : Step) (after : After) (taken : List Known)
    → MayAsk (reply_with_proposal k i step after taken).call
proposes k i step after taken = by (nat_lt k.serial greatest_serial && nat_lt i.row.number greatest_word)
  where
    by : (b : Bool) → MayAsk (proposing_if b k i step after taken).call
    by true = tt
    by false = tt

ends_so : (k : Knowledge) (i : KnownInstance) (e : Ending) (call : Call) → MayAsk call
    → MayAsk (ending_by k i e call).call
ends_so k i e asks.Nothing p = proposes k i _ _ []
ends_so k i e asks.List p = p
ends_so k i e (asks.Adopt c) p = p
ends_so k i e (asks.Spawn cookie terms) p = p
ends_so k i e (asks.Kill c) p = p

notes_so : (k : Knowledge) (i : KnownInstance) (live : Option KnownRun) (o : Option ℕ)
    → MayAsk (noted_by k i live o).call
notes_so k i live None = tt
notes_so k i live (Some bits) = proposes k i _ _ []

adopts : (o : Option KnownRun) (r : Reply) → MayAsk r.call → MayAsk (adopting_or o r).call
adopts None r p = p
adopts (Some run) r p = tt

spawns_so : (i : KnownInstance) (o : Owed) (r : Result ℕ CookieFault) → MayAsk (spawning_by i o r).call
spawns_so i o (Err e) = tt
spawns_so i o (Ok cookie) = refl

begins : (k : Knowledge) (i : KnownInstance) (o : Owed) (b : Option Builtin) → MayAsk (begun_by k i o b).call
begins k i o None = spawns_so i o (bits_of_cookie (record { instance = i.instance; run = o.run; method = o.method }))
begins k i o (Some builtins.True) = tt
begins k i o (Some builtins.Kill) = kills (known_run k i.instance i.row.live)

in_phase : (k : Knowledge) (i : KnownInstance) (p : Phase) → MayAsk (ticked_in k i p).call
in_phase k i (Waiting p after) = tt
in_phase k i (Running m) = tt
in_phase k i (Owes o) = adopts (orphan k i.instance) _ (begins k i o (builtin o.call.command))
in_phase k i (Ends e) =
    adopts (orphan k i.instance) _ (ends_so k i e (drain_call k i e.drain) (drains_kill k i e.drain))
in_phase k i Idle =
    adopts (orphan k i.instance) _
    (notes_so k i (known_run k i.instance i.row.live) (note_due i.row (known_run k i.instance i.row.live)))

tick_known : (k : Knowledge) (o : Option KnownInstance) → MayAsk (ticked_known k o).call
tick_known k None = tt
tick_known k (Some i) = in_phase k i i.phase

tick_up : (k : Knowledge) (n : ℕ) (s : Stage) → MayAsk (ticked_up k n s).call
tick_up k n Up = tick_known k (known_instance k n)
tick_up k n Joining = tt
tick_up k n Listing = tt

tick_asks : (k : Knowledge) (n : ℕ) → MayAsk (reply_to_tick k n).call
unfolding reply_to_tick
tick_asks k n = tick_up k n k.stage

own_asks : (k : Knowledge) (s : Stage) → MayAsk (own_tick k s).call
unfolding own_tick
own_asks k Joining = tt
own_asks k Listing = tt
own_asks k Up = tt

-- ---- what an event asks of the table

abbrev Asks : ContractCall → Type 0
Asks (calls.Spawn actor cookie terms) = terms.inherit ≡ true
Asks _ = Unit {0}

asked_by : (actor : ℕ) (call : Call) (a : Answer) → MayAsk call → Asks (call_of actor call a)
unfolding call_of
asked_by actor asks.Nothing a p = tt
asked_by actor asks.List a p = tt
asked_by actor (asks.Adopt c) a p = tt
asked_by actor (asks.Kill c) a p = tt
asked_by actor (asks.Spawn cookie terms) a p = by (is_spawned a)
  where
    by : (b : Bool) → Asks (if b then calls.Spawn actor cookie terms else calls.Nothing)
    by true = p
    by false = tt

acted_asks : (w : World) (k : Knowledge) (n : ℕ) (spawn : SpawnAnswer) (r : Reply) → MayAsk r.call
    → Asks (work_of_turn w k n spawn r).call
unfolding work_of_turn
acted_asks w k n spawn r p = asked_by k.actor r.call _ p

calling_asks : (t : Contracts) (call : ContractCall) → Asks call → Asks (work_of_call t call).call
unfolding work_of_call
calling_asks t call p = p

heard_asks : (k : Knowledge) (r : Reply) → Asks (heard_by k r).call
unfolding heard_by
heard_asks k r = tt

told_asks : (m : Message) (o : Option Knowledge) → Asks (work_on_message m o).call
told_asks m None = tt
told_asks m (Some k) = heard_asks k (reply_to_message k m)

joined_asks : (w : World) (name : List ℕ) (launch : ℕ) (b : Bool) → Asks (work_of_join w name launch b).call
joined_asks w name launch true = tt
joined_asks w name launch false = tt

delivered_asks : (w : World) (m : Message) → Asks (work_of_delivery w m).call
unfolding work_of_delivery work_of_command
delivered_asks w (messages.Join name launch) = joined_asks w name launch _
delivered_asks w (messages.Rows name launch rows) = told_asks (messages.Rows name launch rows) (restarter w name)
delivered_asks w (messages.Propose p) = tt
delivered_asks w (messages.Ack name launch serial i row) =
    told_asks (messages.Ack name launch serial i row) (restarter w name)
delivered_asks w (messages.Nack name launch serial i why row) =
    told_asks (messages.Nack name launch serial i why row) (restarter w name)
delivered_asks w messages.AskView = tt
delivered_asks w (messages.AskChange since) = tt
delivered_asks w (messages.View v) = tt
delivered_asks w (messages.Changes news) = tt
delivered_asks w (messages.Order o) = told_asks (messages.Order o) (restarter w o.restarter)

sent_asks : (w : World) (o : Option Message) → Asks (delivered_if w o).call
sent_asks w None = tt
sent_asks w (Some m) = delivered_asks w m

own_turn_asks : (w : World) (o : Option Knowledge) → Asks (own_ticked w o).call
own_turn_asks w None = tt
own_turn_asks w (Some k) = acted_asks w k 0 spawns.Made (own_tick k k.stage) (own_asks k k.stage)

turn_asks : (w : World) (n : ℕ) (spawn : SpawnAnswer) (o : Option Knowledge) → Asks (ticked_for w n spawn o).call
turn_asks w n spawn None = tt
turn_asks w n spawn (Some k) = acted_asks w k n spawn (reply_to_tick k n) (tick_asks k n)

process_asks : (p : ℕ) (e : ProcessEvent) → Asks (process_call p e)
process_asks p processes.Fork = tt
process_asks p (processes.Exit exit) = tt
process_asks p (processes.Fail failure) = tt

reported_by_asks : (r : Report) (o : Option Knowledge) → Asks (reported_by r o).call
reported_by_asks r None = tt
reported_by_asks r (Some k) = tt

reported_asks : (w : World) (o : Option Report) → Asks (reported_to w o).call
reported_asks w None = tt
reported_asks w (Some r) = reported_by_asks r (holder w r.contract.holder)

timed_asks : (n : ℕ) (o : Option Knowledge) → Asks (work_of_timeout n o).call
timed_asks n None = tt
timed_asks n (Some k) = tt

crashed_asks : (w : World) (o : Option Knowledge) → Asks (work_of_crash w o).call
crashed_asks w None = tt
crashed_asks w (Some k) = calling_asks w.table (calls.Gone k.actor) tt

launched_asks : (w : World) (name : List ℕ) (b : Bool) → Asks (launched_if w name b).call
unfolding work_of_command
launched_asks w name true = tt
launched_asks w name false = tt

booted_asks : (k : Work) (rs : List CommandReply) → k.call ≡ calls.Nothing → Asks (booted_as k rs).call
booted_asks k [] none = rw none tt
booted_asks k (replies.Done ∷ rs) none = tt
booted_asks k (r ∷ rs) none = rw none tt

boot_asks : (w : World)
    → Asks (booted_as (work_of_command w commands.Boot) (work_of_command w commands.Boot).reply).call
unfolding work_of_command
boot_asks w = booted_asks (work_of_command w commands.Boot) (work_of_command w commands.Boot).reply refl

call_asks : (w : World) (e : Event) → Asks (work_of_event w e).call
unfolding work_of_event work_of_command
call_asks w (events.Deliver place) = sent_asks w (sent_at w place)
call_asks w (events.Client edit) = tt
call_asks w events.Ask = tt
call_asks w events.Orders = tt
call_asks w (events.OwnTick name) = own_turn_asks w (restarter w name)
call_asks w (events.Tick name n spawn) = turn_asks w n spawn (restarter w name)
call_asks w (events.Process process what) = calling_asks w.table (process_call process what) (process_asks process what)
call_asks w (events.Report contract number) = reported_asks w (report_at w.table contract number)
call_asks w (events.Timeout name n) = timed_asks n (restarter w name)
call_asks w (events.Crash name) = crashed_asks w (restarter w name)
call_asks w (events.Launch name) = launched_asks w name (is_launched w name)
call_asks w events.Boot = boot_asks w

-- ---- the table

-- it waits to be adopted if its holder is gone
abbrev pub Inherits : Contract → Type 0
Inherits c = c.terms.inherit ≡ true

abbrev pub AllInherit : Contracts → Type 0
AllInherit t = Each Inherits t.contracts

set_more : (o : Option Contract) (c : Contract) (cs : List Contract) (k : ℕ) (f : Contract → Contract) → Inherits c
    → Each Inherits (option_map_or (λ x. slice_set cs k (f x)) o cs)
    → Each Inherits (option_map_or (λ x. slice_set (c ∷ cs) (suc k) (f x)) o (c ∷ cs))
set_more None c cs k f p a = (p, a)
set_more (Some x) c cs k f p a = (p, a)

set_inherits : (cs : List Contract) (k : ℕ) (f : Contract → Contract) → ((c : Contract) → Inherits c → Inherits (f c))
    → Each Inherits cs → Each Inherits (option_map_or (λ c. slice_set cs k (f c)) (slice_get cs k) cs)
set_inherits [] k f h a = tt
set_inherits (c ∷ cs) zero f h a = (h c a.0, a.1)
set_inherits (c ∷ cs) (suc k) f h a = set_more (slice_get cs k) c cs k f a.0 (set_inherits cs k f h a.1)

changed_inherits : (cs : List Contract) (f : Contract → Contract) → ((c : Contract) → Inherits c → Inherits (f c))
    → (o : Option ℕ) → Each Inherits cs → Each Inherits (changed_at cs f o)
changed_inherits cs f h None a = a
changed_inherits cs f h (Some k) a = set_inherits cs k f h a

adopt_inherits : (t : Contracts) (actor id : ℕ) (o : Option Contract) → AllInherit t
    → AllInherit (left_by t (adopted_if t actor id o))
adopt_inherits t actor id None a = a
adopt_inherits t actor id (Some c) a = by (is_inherited c.holder)
  where
    by : (b : Bool) → AllInherit (left_by t (if b then Ok (with_holder t id (Held actor)) else Err NotInherited))
    by true = changed_inherits t.contracts (λ c. record c { holder = Held actor }) (λ c p. p)
        (position (has_id id) t.contracts) a
    by false = a

given_inherits : (actor : ℕ) (c : Contract) → Inherits c → Inherits (given_up actor c)
given_inherits actor c p = by (is_held_by actor c.holder)
  where
    by : (b : Bool)
        → Inherits (if b then record c { holder = (if c.terms.inherit then Inherited else Abandoned) } else c)
    by true = p
    by false = p

gone_inherits : (actor : ℕ) (cs : List Contract) → Each Inherits cs → Each Inherits (map (given_up actor) cs)
gone_inherits actor [] a = tt
gone_inherits actor (c ∷ cs) a = (given_inherits actor c a.0, gone_inherits actor cs a.1)

kill_inherits : (t : Contracts) (id : ℕ) (o : Option Contract) → AllInherit t
    → AllInherit (left_by t (killed_if t id o))
kill_inherits t id None a = a
kill_inherits t id (Some c) a = a

fork_inherits : (t : Contracts) (o child : Option ℕ) → AllInherit t
    → AllInherit (left_by_making t (forked_in t o child))
fork_inherits t None child a = a
fork_inherits t (Some id) None a = a
fork_inherits t (Some id) (Some p) a = a

exit_inherits : (t : Contracts) (p : ℕ) (e : ends.Exit) (o : Option ℕ) → AllInherit t
    → AllInherit (left_by t (exited_in t p e o))
exit_inherits t p e None a = a
exit_inherits t p e (Some id) a = a

fail_inherits : (t : Contracts) (p : ℕ) (f : Failure) (o : Option ℕ) → AllInherit t
    → AllInherit (left_by t (failed_in t p f o))
fail_inherits t p f None a = a
fail_inherits t p f (Some id) a = a

spawn_inherits : (t : Contracts) (actor cookie : ℕ) (terms : Terms) (o n : Option ℕ) → terms.inherit ≡ true
    → AllInherit t → AllInherit (left_by_making t (spawned_as t actor cookie terms o n))
spawn_inherits t actor cookie terms None n p a = a
spawn_inherits t actor cookie terms (Some id) None p a = a
spawn_inherits t actor cookie terms (Some id) (Some q) p a =
    each_both Inherits t.contracts (new_contract id actor cookie terms q ∷ []) a (p, tt)

called_inherits : (t : Contracts) (call : ContractCall) → Asks call → AllInherit t
    → AllInherit (table_after_contract_call t call)
unfolding table_after_contract_call result_of_adoption result_of_kill table_without_actor result_of_fork
    result_of_exit result_of_failure result_of_spawn
called_inherits t calls.Nothing p a = a
called_inherits t calls.Reboot p a = tt
called_inherits t (calls.Spawn actor cookie terms) p a =
    spawn_inherits t actor cookie terms (next_number t.last_contract) (next_number t.last_process) p a
called_inherits t (calls.Adopt actor id) p a = adopt_inherits t actor id (contract t id) a
called_inherits t (calls.Kill actor id) p a = kill_inherits t id (contract_held_by t actor id) a
called_inherits t (calls.Gone actor) p a = gone_inherits actor t.contracts a
called_inherits t (calls.Fork process) p a = fork_inherits t (home t.members process) (next_number t.last_process) a
called_inherits t (calls.Exit process e) p a = exit_inherits t process e (home t.members process) a
called_inherits t (calls.Fail process f) p a = fail_inherits t process f (home t.members process) a

-- ---- worlds

pub happens_inherits : (w : World) (e : Event) → AllInherit w.table → AllInherit (happens w e).table
unfolding happens world_after
happens_inherits w e a = called_inherits w.table (work_of_event w e).call (call_asks w e) a

pub run_inherits : (es : List Event) (w : World) → AllInherit w.table → AllInherit (run es w).table
run_inherits [] w a = a
run_inherits (e ∷ es) w a = run_inherits es (happens w e) (happens_inherits w e a)

pub reached_inherits : (w : World) → IsReached w → AllInherit w.table
reached_inherits w r =
    let first : World = happens (initial_world w.history.first) events.Boot in
    subst (λ (v : World). AllInherit v.table) r.since.1
    (run_inherits r.since.0 first (happens_inherits (initial_world w.history.first) events.Boot tt))

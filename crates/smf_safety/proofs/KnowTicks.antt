-- A restarter takes one of the few kinds of steps in its turn and on a report.
use Rattle.std.proofs.Common.{◌≡◌, inl, inr, ◌&&◌, nat_lt, ℕ, Bool, true, false, if◌then◌else◌, List, [], ◌∷◌, Option, Some, None, Result, Ok, Err, refl, sym, ap, ◌∙◌, subst}
use Rattle.std.specs.Prelude.{find, is_some}
use Rattle.smf_contract.specs.declared.contract.Report.{Report}
use Rattle.smf_contract.specs.declared.cookie.Cookie.{Cookie}
use Rattle.smf_contract.specs.declared.cookie.CookieFault.{CookieFault}
use Rattle.smf_contract.specs.declared.event.Exit.{Exit}
use Rattle.smf_contract.specs.declared.fault.ContractFault.{ContractFault}
use Rattle.smf_contract.specs.Calls.{result_of_adoption, next_contract}
use Rattle.smf_contract.specs.Cookies.{bits_of_cookie, cookie_of_bits}
use Rattle.smf_contract.specs.Entries.{Contracts, statuses}
use Rattle.smf_method.specs.declared.command.Builtin.{Builtin}
use Rattle.smf_method.specs.declared.command.Builtin.TheVariants as builtins
use Rattle.smf_method.specs.Commands.{builtin}
use Rattle.smf_method.specs.Outcomes.{outcome_of}
use Rattle.smf_state.specs.declared.step.Step.{Step}
use Rattle.smf_wire.specs.declared.message.Message.{Message}
use Rattle.smf_restarter.specs.declared.known.After.{After}
use Rattle.smf_restarter.specs.declared.known.After.TheVariants as afters
use Rattle.smf_restarter.specs.declared.known.Drain.{Drain}
use Rattle.smf_restarter.specs.declared.known.Drain.TheVariants as drains
use Rattle.smf_restarter.specs.declared.known.Ending.{Ending}
use Rattle.smf_restarter.specs.declared.known.KnownInstance.{KnownInstance}
use Rattle.smf_restarter.specs.declared.known.KnownRun.{KnownRun}
use Rattle.smf_restarter.specs.declared.known.Owed.{Owed}
use Rattle.smf_restarter.specs.declared.known.Phase.{Phase}
use Rattle.smf_restarter.specs.declared.known.Phase.TheVariants.{Idle, Waiting, Owes, Running, Ending as Ends}
use Rattle.smf_restarter.specs.declared.known.RunningMethod.{RunningMethod}
use Rattle.smf_restarter.specs.declared.known.Stage.{Stage}
use Rattle.smf_restarter.specs.declared.known.Stage.TheVariants.{Joining, Listing, Up}
use Rattle.smf_restarter.specs.declared.reply.Answer.{Answer}
use Rattle.smf_restarter.specs.declared.reply.Answer.TheVariants as answers
use Rattle.smf_restarter.specs.declared.reply.Begun.{Begun}
use Rattle.smf_restarter.specs.declared.reply.Call.{Call}
use Rattle.smf_restarter.specs.declared.reply.Call.TheVariants as calls
use Rattle.smf_restarter.specs.declared.reply.KnowledgeChange.{KnowledgeChange}
use Rattle.smf_restarter.specs.declared.reply.Course.TheVariants as courses
use Rattle.smf_restarter.specs.declared.reply.Reply.{Reply}
use Rattle.smf_restarter.specs.Answers.{adopted_run, change_on_answer, answered_in, answered_known, answered_owed, end_by, first_exit, is_of_contract, is_run_of, change_on_list, listed_in, change_on_report, reported_as, run_after, run_before, timed_in, timed_known, timed_out, turn_by, turn_in, turn_known, turn_to, turn_up}
use Rattle.smf_restarter.specs.Changes.{reply_with_method, reply_with_call, nothing, change_of_course, no_change}
use Rattle.smf_restarter.specs.Ends.{failed_with, not_followed}
use Rattle.smf_restarter.specs.Knowledge.{Knowledge, known_instance}
use Rattle.smf_restarter.specs.Orders.{greatest_serial, greatest_word, reply_with_proposal, proposing_if}
use Rattle.smf_restarter.specs.Runs.{known_run, orphan}
use Rattle.smf_restarter.specs.Ticks.{adopting_or, begun_by, begun_of, built_in, drain_call, ending_by, first_call, kill_of, live_call, note_due, noted_by, own_tick, side_call, spawning_by, terms_of, reply_to_tick, ticked_in, ticked_known, ticked_up}
use Rattle.smf_world.specs.declared.event.SpawnAnswer.{SpawnAnswer}
use Rattle.smf_world.specs.declared.event.SpawnAnswer.TheVariants as spawning
use Rattle.smf_world.specs.Worked.{adopt_answer, answer_of, begun_in, change_after, spawn_answer}
use Rattle.smf_world.specs.World.{World}
use Rattle.smf_safety.proofs.KnowSteps.{Does, Doing, IsAt, Proposes, builds, doing, ends, joins, lists, notes, repeats, rests, spawns, turns}
use Rattle.smf_safety.proofs.KnowReplies.{at_known, does_propose, exit_ends, failed_ends, of_reply, unfollowed_ends}

-- ---- a turn, with the answer to what it asks of the contracts

-- a method that is begun is shown if a contract was made, or if none was asked for
abbrev pub shown_begun : Option ℕ → List Begun → List Begun
shown_begun None bs = []
shown_begun (Some c) bs = bs

abbrev pub acting : World → Knowledge → ℕ → Reply → Answer → Doing
acting w k n r a = doing (change_after w k n r r.call a) r.messages (shown_begun (begun_in r.call a) r.begun) r.call

-- a turn of a restarter for an instance, or for itself
abbrev pub acted_doing : World → Knowledge → ℕ → SpawnAnswer → Reply → Doing
acted_doing w k n spawn r = acting w k n r (answer_of w.table k.actor spawn r.call)

abbrev Acts : World → Knowledge → ℕ → SpawnAnswer → (Message → Type 0) → Reply → Type 0
Acts w k n spawn T r = Does k T (acted_doing w k n spawn r)

stays : (w : World) (k : Knowledge) (n : ℕ) (spawn : SpawnAnswer) (T : Message → Type 0) → Acts w k n spawn T nothing
unfolding answer_of
stays w k n spawn T = rests None calls.Nothing refl

-- a reply with a proposal asks nothing of the contracts
asks_none : (w : World) (k : Knowledge) (n : ℕ) (spawn : SpawnAnswer) (T : Message → Type 0) (b : Bool)
    (i : KnownInstance) (step : Step) (after : After) → Does k T (of_reply (proposing_if b k i step after []))
    → Acts w k n spawn T (proposing_if b k i step after [])
unfolding answer_of
asks_none w k n spawn T true i step after d = d
asks_none w k n spawn T false i step after d = d

acts_propose : (w : World) (k : Knowledge) (n : ℕ) (spawn : SpawnAnswer) (T : Message → Type 0) (i : KnownInstance)
    (step : Step) (after : After) → k.stage ≡ Up → Proposes k T i step after
    → Acts w k n spawn T (reply_with_proposal k i step after [])
acts_propose w k n spawn T i step after up why =
    asks_none w k n spawn T (nat_lt k.serial greatest_serial && nat_lt i.row.number greatest_word) i step after
    (does_propose k T i step after [] up why)

-- ---- adoptions

adopted_none : (k : Knowledge) (T : Message → Type 0) (c : ℕ) (o : Option KnownRun)
    → Does k T (doing (adopted_run o) [] [] (calls.Adopt c))
adopted_none k T c None = rests None (calls.Adopt c) refl
adopted_none k T c (Some r) = rests (Some (record r { held = true })) (calls.Adopt c) refl

unanswered_in : (i : KnownInstance) (x : Phase) → answered_in i answers.Nothing x ≡ no_change
unanswered_in i Idle = refl
unanswered_in i (Waiting p after) = refl
unanswered_in i (Owes o) = refl
unanswered_in i (Running m) = refl
unanswered_in i (Ends e) = refl

unanswered : (o : Option KnownInstance) → answered_known answers.Nothing o ≡ no_change
unanswered None = refl
unanswered (Some i) = unanswered_in i i.phase

adopt_acts : (w : World) (k : Knowledge) (n : ℕ) (T : Message → Type 0) (c : ℕ) (r : Result Contracts ContractFault)
    → Does k T (acting w k n (reply_with_call (calls.Adopt c)) (adopt_answer c r))
unfolding change_on_answer
adopt_acts w k n T c (Ok t) = adopted_none k T c (find (is_of_contract c) k.runs)
adopt_acts w k n T c (Err e) =
    rests None (calls.Adopt c)
    (ap (λ (x : KnowledgeChange). doing x [] [] (calls.Adopt c)) (unanswered (known_instance k n)))

adopting_acts : (w : World) (k : Knowledge) (n : ℕ) (spawn : SpawnAnswer) (T : Message → Type 0) (o : Option KnownRun)
    (r : Reply) → Acts w k n spawn T r → Acts w k n spawn T (adopting_or o r)
unfolding answer_of
adopting_acts w k n spawn T None r d = d
adopting_acts w k n spawn T (Some run) r d =
    adopt_acts w k n T run.contract (result_of_adoption w.table k.actor run.contract)

-- ---- methods

-- nothing, or a kill
pub data IsKill (c : Call) : Type 0 where
  none : c ≡ calls.Nothing → IsKill c
  kill : (contract : ℕ) → c ≡ calls.Kill contract → IsKill c

pub kill_of_kills : (o : Option KnownRun) → IsKill (kill_of o)
kill_of_kills None = none refl
kill_of_kills (Some r) = by r.empty
  where
    by : (b : Bool) → IsKill (if b then calls.Nothing else calls.Kill r.contract)
    by true = none refl
    by false = kill r.contract refl

first_kills : (a b : Call) → IsKill a → IsKill b → IsKill (first_call a b)
first_kills a b (none e) y = subst (λ (x : Call). IsKill (first_call x b)) (sym e) y
first_kills a b (kill c e) y = subst (λ (x : Call). IsKill (first_call x b)) (sym e) (kill c refl)

pub drain_kills : (k : Knowledge) (i : KnownInstance) (d : Drain) → IsKill (drain_call k i d)
drain_kills k i drains.Nothing = none refl
drain_kills k i drains.Live = kill_of_kills (known_run k i.instance i.row.live)
drain_kills k i drains.Side = kill_of_kills (known_run k i.instance i.row.side)
drain_kills k i drains.Both =
    first_kills (live_call k i) (side_call k i) (kill_of_kills (known_run k i.instance i.row.live))
    (kill_of_kills (known_run k i.instance i.row.side))

built_acts : (w : World) (k : Knowledge) (n : ℕ) (spawn : SpawnAnswer) (T : Message → Type 0) (i : KnownInstance)
    (o : Owed) (call : Call) → IsAt k i → i.phase ≡ Owes o → IsKill call → Acts w k n spawn T (built_in i o call)
unfolding answer_of
built_acts w k n spawn T i o call at f (none e) =
    subst (λ (x : Call). Acts w k n spawn T (built_in i o x)) (sym e) (builds i o calls.Nothing at f refl)
built_acts w k n spawn T i o call at f (kill c e) =
    subst (λ (x : Call). Acts w k n spawn T (built_in i o x)) (sym e) (builds i o (calls.Kill c) at f refl)

answered_at : (k : Knowledge) (n : ℕ) (i : KnownInstance) (o : Owed) (a : Answer) → known_instance k n ≡ Some i
    → i.phase ≡ Owes o → answered_known a (known_instance k n) ≡ answered_owed i o a
answered_at k n i o a e f = ap (answered_known a) e ∙ ap (answered_in i a) f

spawn_acts : (w : World) (k : Knowledge) (n : ℕ) (T : Message → Type 0) (i : KnownInstance) (o : Owed) (cookie : ℕ)
    (a : SpawnAnswer) (next : Option ℕ) → known_instance k n ≡ Some i → i.phase ≡ Owes o
    → bits_of_cookie (record { instance = i.instance; run = o.run; method = o.method }) ≡ Ok cookie
    → Does k T (acting w k n
    (reply_with_method (begun_of i o) (calls.Spawn cookie (terms_of o.method i.row)) no_change)
    (spawn_answer a next))
unfolding change_on_answer
spawn_acts w k n T i o cookie spawning.Made (Some c) e f packs =
    spawns i o c cookie (at_known k n i e).1 f packs
    (ap (λ (x : KnowledgeChange). doing x [] (begun_of i o ∷ []) (calls.Spawn cookie (terms_of o.method i.row)))
    (answered_at k n i o (answers.Spawned c) e f))
spawn_acts w k n T i o cookie spawning.Made None e f packs =
    turns i o.method (failed_with i.row o.method false) None (calls.Spawn cookie (terms_of o.method i.row))
    (at_known k n i e).1 (inl (o, f, refl)) (failed_ends i.row o.method false)
    (ap (λ (x : KnowledgeChange). doing x [] [] (calls.Spawn cookie (terms_of o.method i.row)))
    (answered_at k n i o answers.Refused e f))
spawn_acts w k n T i o cookie spawning.Refused next e f packs =
    turns i o.method (failed_with i.row o.method false) None (calls.Spawn cookie (terms_of o.method i.row))
    (at_known k n i e).1 (inl (o, f, refl)) (failed_ends i.row o.method false)
    (ap (λ (x : KnowledgeChange). doing x [] [] (calls.Spawn cookie (terms_of o.method i.row)))
    (answered_at k n i o answers.Refused e f))
spawn_acts w k n T i o cookie spawning.NotFollowed next e f packs =
    turns i o.method (not_followed i.row o.method) None (calls.Spawn cookie (terms_of o.method i.row))
    (at_known k n i e).1 (inl (o, f, refl)) (unfollowed_ends i.row o.method)
    (ap (λ (x : KnowledgeChange). doing x [] [] (calls.Spawn cookie (terms_of o.method i.row)))
    (answered_at k n i o answers.NotFollowed e f))

spawning_acts : (w : World) (k : Knowledge) (n : ℕ) (spawn : SpawnAnswer) (T : Message → Type 0) (i : KnownInstance)
    (o : Owed) (r : Result ℕ CookieFault) → known_instance k n ≡ Some i → i.phase ≡ Owes o
    → bits_of_cookie (record { instance = i.instance; run = o.run; method = o.method }) ≡ r
    → Acts w k n spawn T (spawning_by i o r)
unfolding answer_of
spawning_acts w k n spawn T i o (Err fault) e f packs = stays w k n spawn T
spawning_acts w k n spawn T i o (Ok cookie) e f packs =
    spawn_acts w k n T i o cookie spawn (next_contract w.table) e f packs

begun_acts : (w : World) (k : Knowledge) (n : ℕ) (spawn : SpawnAnswer) (T : Message → Type 0) (i : KnownInstance)
    (o : Owed) (b : Option Builtin) → known_instance k n ≡ Some i → i.phase ≡ Owes o
    → Acts w k n spawn T (begun_by k i o b)
begun_acts w k n spawn T i o None e f =
    spawning_acts w k n spawn T i o
    (bits_of_cookie (record { instance = i.instance; run = o.run; method = o.method })) e f refl
begun_acts w k n spawn T i o (Some builtins.True) e f =
    built_acts w k n spawn T i o calls.Nothing (at_known k n i e).1 f (none refl)
begun_acts w k n spawn T i o (Some builtins.Kill) e f =
    built_acts w k n spawn T i o (kill_of (known_run k i.instance i.row.live)) (at_known k n i e).1 f
    (kill_of_kills (known_run k i.instance i.row.live))

-- ---- ends and notes

ending_acts : (w : World) (k : Knowledge) (n : ℕ) (spawn : SpawnAnswer) (T : Message → Type 0) (i : KnownInstance)
    (e : Ending) (call : Call) → k.stage ≡ Up → IsAt k i → i.phase ≡ Ends e → drain_call k i e.drain ≡ call
    → IsKill call
    → Acts w k n spawn T (ending_by k i e call)
unfolding answer_of
ending_acts w k n spawn T i e call up at f is (none g) =
    subst (λ (x : Call). Acts w k n spawn T (ending_by k i e x)) (sym g)
    (acts_propose w k n spawn T i _ afters.Idle up (ends e at f (is ∙ g) refl refl))
ending_acts w k n spawn T i e call up at f is (kill c g) =
    subst (λ (x : Call). Acts w k n spawn T (ending_by k i e x)) (sym g) (rests None (calls.Kill c) refl)

note_acts : (w : World) (k : Knowledge) (n : ℕ) (spawn : SpawnAnswer) (T : Message → Type 0) (i : KnownInstance)
    (o : Option ℕ) → k.stage ≡ Up → IsAt k i → i.phase ≡ Idle → note_due i.row (known_run k i.instance i.row.live) ≡ o
    → Acts w k n spawn T (noted_by k i (known_run k i.instance i.row.live) o)
note_acts w k n spawn T i None up at f due = stays w k n spawn T
note_acts w k n spawn T i (Some bits) up at f due =
    acts_propose w k n spawn T i _ afters.Idle up (notes bits at f due refl refl)

-- ---- turns

phase_acts : (w : World) (k : Knowledge) (n : ℕ) (spawn : SpawnAnswer) (T : Message → Type 0) (i : KnownInstance)
    (x : Phase) → k.stage ≡ Up → known_instance k n ≡ Some i → i.phase ≡ x → Acts w k n spawn T (ticked_in k i x)
unfolding answer_of
phase_acts w k n spawn T i (Waiting p after) up e f = repeats i p after (at_known k n i e).1 f refl
phase_acts w k n spawn T i (Running m) up e f = stays w k n spawn T
phase_acts w k n spawn T i (Owes o) up e f =
    adopting_acts w k n spawn T (orphan k i.instance) _ (begun_acts w k n spawn T i o (builtin o.call.command) e f)
phase_acts w k n spawn T i (Ends x) up e f =
    adopting_acts w k n spawn T (orphan k i.instance) _
    (ending_acts w k n spawn T i x (drain_call k i x.drain) up (at_known k n i e).1 f refl (drain_kills k i x.drain))
phase_acts w k n spawn T i Idle up e f =
    adopting_acts w k n spawn T (orphan k i.instance) _
    (note_acts w k n spawn T i (note_due i.row (known_run k i.instance i.row.live)) up (at_known k n i e).1 f refl)

known_acts : (w : World) (k : Knowledge) (n : ℕ) (spawn : SpawnAnswer) (T : Message → Type 0)
    (o : Option KnownInstance) → k.stage ≡ Up → known_instance k n ≡ o → Acts w k n spawn T (ticked_known k o)
known_acts w k n spawn T None up e = stays w k n spawn T
known_acts w k n spawn T (Some i) up e = phase_acts w k n spawn T i i.phase up e refl

up_acts : (w : World) (k : Knowledge) (n : ℕ) (spawn : SpawnAnswer) (T : Message → Type 0) (s : Stage) → k.stage ≡ s
    → Acts w k n spawn T (ticked_up k n s)
up_acts w k n spawn T Up e = known_acts w k n spawn T (known_instance k n) e refl
up_acts w k n spawn T Joining e = stays w k n spawn T
up_acts w k n spawn T Listing e = stays w k n spawn T

-- its turn for an instance
pub ticked_does : (w : World) (k : Knowledge) (n : ℕ) (spawn : SpawnAnswer) (T : Message → Type 0)
    → Does k T (acted_doing w k n spawn (reply_to_tick k n))
unfolding reply_to_tick
ticked_does w k n spawn T = up_acts w k n spawn T k.stage refl

-- its turn for itself
pub own_does : (w : World) (k : Knowledge) (T : Message → Type 0) (s : Stage) → k.stage ≡ s
    → Does k T (acted_doing w k 0 spawning.Made (own_tick k s))
unfolding own_tick answer_of change_on_list
own_does w k T Joining e = joins e refl
own_does w k T Listing e =
    lists (statuses w.table) e (ap (λ (s : Stage). doing (listed_in k (statuses w.table) s) [] [] calls.List) e)
own_does w k T Up e = rests None calls.Nothing refl

-- ---- what is reported

abbrev Learns : Knowledge → (Message → Type 0) → KnowledgeChange → Type 0
Learns k T c = Does k T (doing c [] [] calls.Nothing)

exit_turns : (k : Knowledge) (T : Message → Type 0) (i : KnownInstance) (r : Report) (c : Cookie) (m : RunningMethod)
    (o : Option Exit) (run : Option KnownRun) → IsAt k i → i.phase ≡ Running m
    → Learns k T (record no_change { turn = turn_by i r c m o; run = run })
exit_turns k T i r c m None run at f = rests run calls.Nothing refl
exit_turns k T i r c m (Some exit) run at f = by (is_run_of m c)
  where
    by : (b : Bool)
        → Learns k T (record no_change {
          turn = if b then turn_to i (end_by i.row m.method r.event.left (outcome_of m.method exit)) else None;
          run = run;
        })
    by true = turns i m.method _ run calls.Nothing at (inr (m, f, refl))
        (exit_ends i.row m.method r.event.left (outcome_of m.method exit)) refl
    by false = rests run calls.Nothing refl

phase_turns : (k : Knowledge) (T : Message → Type 0) (i : KnownInstance) (r : Report) (c : Cookie) (x : Phase)
    (run : Option KnownRun) → IsAt k i → i.phase ≡ x
    → Learns k T (record no_change { turn = turn_in i r c x; run = run })
phase_turns k T i r c Idle run at f = rests run calls.Nothing refl
phase_turns k T i r c (Waiting p after) run at f = rests run calls.Nothing refl
phase_turns k T i r c (Owes o) run at f = rests run calls.Nothing refl
phase_turns k T i r c (Ends e) run at f = rests run calls.Nothing refl
phase_turns k T i r c (Running m) run at f = exit_turns k T i r c m (first_exit r.contract.first r.event.kind) run at f

known_turns : (k : Knowledge) (T : Message → Type 0) (r : Report) (c : Cookie) (o : Option KnownInstance)
    (run : Option KnownRun) → known_instance k c.instance ≡ o
    → Learns k T (record no_change { turn = turn_known r c o; run = run })
known_turns k T r c None run e = rests run calls.Nothing refl
known_turns k T r c (Some i) run e = phase_turns k T i r c i.phase run (at_known k c.instance i e).1 refl

stage_turns : (k : Knowledge) (T : Message → Type 0) (r : Report) (c : Cookie) (s : Stage) (run : Option KnownRun)
    → Learns k T (record no_change { turn = turn_up k r c s; run = run })
stage_turns k T r c Up run = known_turns k T r c (known_instance k c.instance) run refl
stage_turns k T r c Joining run = rests run calls.Nothing refl
stage_turns k T r c Listing run = rests run calls.Nothing refl

cookie_turns : (k : Knowledge) (T : Message → Type 0) (r : Report) (o : Option Cookie) → Learns k T (reported_as k r o)
cookie_turns k T r None = rests None calls.Nothing refl
cookie_turns k T r (Some c) = stage_turns k T r c k.stage (Some (run_after k r c (run_before k r c)))

pub reported_does : (k : Knowledge) (T : Message → Type 0) (r : Report)
    → Does k T (doing (change_on_report k r) [] [] calls.Nothing)
unfolding change_on_report
reported_does k T r = cookie_turns k T r (cookie_of_bits r.contract.cookie)

late_phase : (k : Knowledge) (T : Message → Type 0) (i : KnownInstance) (x : Phase) → IsAt k i → i.phase ≡ x
    → Learns k T (timed_in i x)
late_phase k T i Idle at f = rests None calls.Nothing refl
late_phase k T i (Waiting p after) at f = rests None calls.Nothing refl
late_phase k T i (Owes o) at f = rests None calls.Nothing refl
late_phase k T i (Ends e) at f = rests None calls.Nothing refl
late_phase k T i (Running m) at f = by (is_some m.timeout)
  where
    by : (b : Bool)
        → Learns k T (if b then change_of_course i.instance (courses.Ending (failed_with i.row m.method false))
        else no_change)
    by true = turns i m.method _ None calls.Nothing at (inr (m, f, refl)) (failed_ends i.row m.method false) refl
    by false = rests None calls.Nothing refl

late_known : (k : Knowledge) (T : Message → Type 0) (n : ℕ) (o : Option KnownInstance) → known_instance k n ≡ o
    → Learns k T (timed_known o)
late_known k T n None e = rests None calls.Nothing refl
late_known k T n (Some i) e = late_phase k T i i.phase (at_known k n i e).1 refl

pub timed_does : (k : Knowledge) (T : Message → Type 0) (n : ℕ) → Does k T (doing (timed_out k n) [] [] calls.Nothing)
unfolding timed_out
timed_does k T n = late_known k T n (known_instance k n) refl

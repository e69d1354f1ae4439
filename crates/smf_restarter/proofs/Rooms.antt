-- How much room the changes of ticks, answers and reports need.
use Rattle.std.proofs.Common.{◌≡◌, ◌<◌, ◌≤◌, ℕ, List, [], ◌∷◌, Bool, true, false, Option, Some, None, Result, Ok, Err, find, if◌then◌else◌, inl, inr, refl, ap, arith}
use Rattle.std.specs.Prelude.{◌+◌, ◌&&◌, ◌⊎◌, OnErr, length, nat_lt, is_some}
use Rattle.smf_contract.specs.declared.contract.Report.{Report}
use Rattle.smf_contract.specs.declared.cookie.Cookie.{Cookie}
use Rattle.smf_contract.specs.declared.cookie.CookieFault.{CookieFault}
use Rattle.smf_contract.specs.Cookies.{bits_of_cookie, cookie_of_bits}
use Rattle.smf_method.specs.declared.command.Builtin.{Builtin}
use Rattle.smf_method.specs.declared.command.Builtin.TheVariants as builtins
use Rattle.smf_method.specs.Commands.{builtin}
use Rattle.smf_state.specs.declared.step.Step.{Step}
use Rattle.smf_restarter.specs.declared.known.After.{After}
use Rattle.smf_restarter.specs.declared.known.After.TheVariants as afters
use Rattle.smf_restarter.specs.declared.known.Ending.{Ending}
use Rattle.smf_restarter.specs.declared.known.KnownInstance.{KnownInstance}
use Rattle.smf_restarter.specs.declared.known.KnownRun.{KnownRun}
use Rattle.smf_restarter.specs.declared.known.Owed.{Owed}
use Rattle.smf_restarter.specs.declared.known.Phase.{Phase}
use Rattle.smf_restarter.specs.declared.known.Phase.TheVariants.{Idle, Waiting, Owes, Running, Ending as Ends}
use Rattle.smf_restarter.specs.declared.known.RunningMethod.{RunningMethod}
use Rattle.smf_restarter.specs.declared.known.Stage.{Stage}
use Rattle.smf_restarter.specs.declared.known.Stage.TheVariants.{Joining, Listing, Up}
use Rattle.smf_restarter.specs.declared.reply.Answer.{Answer}
use Rattle.smf_restarter.specs.declared.reply.Answer.TheVariants as answers
use Rattle.smf_restarter.specs.declared.reply.Call.{Call}
use Rattle.smf_restarter.specs.declared.reply.Call.TheVariants as calls
use Rattle.smf_restarter.specs.declared.reply.KnowledgeChange.{KnowledgeChange}
use Rattle.smf_restarter.specs.declared.reply.Course.TheVariants as courses
use Rattle.smf_restarter.specs.declared.reply.Reply.{Reply}
use Rattle.smf_restarter.specs.Answers.{adopted_run, change_on_answer, answered_in, answered_known, answered_owed, is_of_contract, change_on_report, reported_as, timed_in, timed_known, timed_out}
use Rattle.smf_restarter.specs.Changes.{reply_with_call, nothing, change_of_course, no_change}
use Rattle.smf_restarter.specs.Ends.{failed_with}
use Rattle.smf_restarter.specs.Knowledge.{Knowledge, known_instance}
use Rattle.smf_restarter.specs.Orders.{greatest_serial, greatest_word, proposal, proposing_if, waiting_instance}
use Rattle.smf_restarter.specs.Room.{HasPlace, IsSpawn}
use Rattle.smf_restarter.specs.Runs.{known_run, orphan}
use Rattle.smf_restarter.specs.Ticks.{adopting_or, begun_by, built_in, drain_call, ending_by, kill_of, note_due, noted_by, spawning_by, reply_to_tick, ticked_in, ticked_known, ticked_up}

-- a fact that needs no fault
if_err : {X E : Type 0} (r : Result X E) {P : Type 0} → P → OnErr r P
if_err (Ok x) p = tt
if_err (Err e) p = p

-- ---- room that is made only if it is not there

pub lacks_instances : {X E : Type 0} (r : Result X E) (a b c d : ℕ) → a < b → OnErr r ((a < b) ⊎ (c < d))
lacks_instances r a b c d h = if_err r (inl h)

pub lacks_runs : {X E : Type 0} (r : Result X E) (a b c d : ℕ) → c < d → OnErr r ((a < b) ⊎ (c < d))
lacks_runs r a b c d h = if_err r (inr h)

-- ---- changes that put no instance

at_zero : (a : ℕ) → a ≡ 0 → a ≤ 0
at_zero a e = omega arith

at_one : (a : ℕ) → a ≡ 0 → a + 1 ≤ 1
at_one a e = omega arith

below_one : (a : ℕ) → a ≡ 0 → a ≤ 1
below_one a e = omega arith

just_one : (a : ℕ) → a ≡ 1 → a ≤ 1
just_one a e = omega arith

none_put : (c : KnowledgeChange) → c.put ≡ [] → c.listed ≡ [] → HasPlace c 0 1
none_put c put listed =
    record {
      put = at_zero _ (ap (λ (is : List KnownInstance). length is) put);
      listed = at_one _ (ap (λ (rs : List KnownRun). length rs) listed);
    }

adopted_place : (o : Option KnownRun) → HasPlace (adopted_run o) 0 1
adopted_place None = none_put _ refl refl
adopted_place (Some r) = none_put _ refl refl

owed_place : (i : KnownInstance) (o : Owed) (a : Answer) → HasPlace (answered_owed i o a) 0 1
owed_place i o (answers.Spawned c) = none_put _ refl refl
owed_place i o answers.Refused = none_put _ refl refl
owed_place i o answers.NotFollowed = none_put _ refl refl
owed_place i o answers.Nothing = none_put _ refl refl
owed_place i o (answers.Adopted c) = none_put _ refl refl

in_place : (i : KnownInstance) (a : Answer) (p : Phase) → HasPlace (answered_in i a p) 0 1
in_place i a (Owes o) = owed_place i o a
in_place i a Idle = none_put _ refl refl
in_place i a (Waiting p after) = none_put _ refl refl
in_place i a (Running m) = none_put _ refl refl
in_place i a (Ends e) = none_put _ refl refl

known_place : (a : Answer) (o : Option KnownInstance) → HasPlace (answered_known a o) 0 1
known_place a None = none_put _ refl refl
known_place a (Some i) = in_place i a i.phase

pub answered_place : (k : Knowledge) (n : ℕ) (a : Answer) → HasPlace (change_on_answer k n a) 0 1
unfolding change_on_answer
answered_place k n (answers.Adopted c) = adopted_place (find (is_of_contract c) k.runs)
answered_place k n answers.Nothing = known_place answers.Nothing (known_instance k n)
answered_place k n (answers.Spawned c) = known_place (answers.Spawned c) (known_instance k n)
answered_place k n answers.Refused = known_place answers.Refused (known_instance k n)
answered_place k n answers.NotFollowed = known_place answers.NotFollowed (known_instance k n)

reported_as_place : (k : Knowledge) (r : Report) (o : Option Cookie) → HasPlace (reported_as k r o) 0 1
reported_as_place k r None = none_put _ refl refl
reported_as_place k r (Some c) = none_put _ refl refl

pub reported_place : (k : Knowledge) (r : Report) → HasPlace (change_on_report k r) 0 1
unfolding change_on_report
reported_place k r = reported_as_place k r (cookie_of_bits r.contract.cookie)

turning_place : (b : Bool) (i : KnownInstance) (m : RunningMethod)
    → HasPlace (if b then change_of_course i.instance (courses.Ending (failed_with i.row m.method false))
    else no_change) 0 1
turning_place true i m = none_put _ refl refl
turning_place false i m = none_put _ refl refl

timed_in_place : (i : KnownInstance) (p : Phase) → HasPlace (timed_in i p) 0 1
timed_in_place i (Running m) = turning_place (is_some m.timeout) i m
timed_in_place i Idle = none_put _ refl refl
timed_in_place i (Waiting p after) = none_put _ refl refl
timed_in_place i (Owes o) = none_put _ refl refl
timed_in_place i (Ends e) = none_put _ refl refl

timed_known_place : (o : Option KnownInstance) → HasPlace (timed_known o) 0 1
timed_known_place None = none_put _ refl refl
timed_known_place (Some i) = timed_in_place i i.phase

pub timed_out_place : (k : Knowledge) (n : ℕ) → HasPlace (timed_out k n) 0 1
unfolding timed_out
timed_out_place k n = timed_known_place (known_instance k n)

-- ---- ticks, which put one instance at most, and change nothing if they ask for a spawn

record IsTurn (r : Reply) : Type 0 where
  place : HasPlace r.change 1 1
  still : IsSpawn r.call → r.change ≡ no_change

no_place : (c : KnowledgeChange) → c.put ≡ [] → c.listed ≡ [] → HasPlace c 1 1
no_place c put listed =
    record {
      put = below_one _ (ap (λ (is : List KnownInstance). length is) put);
      listed = at_one _ (ap (λ (rs : List KnownRun). length rs) listed);
    }

one_place : (c : KnowledgeChange) (i : KnownInstance) → c.put ≡ i ∷ [] → c.listed ≡ [] → HasPlace c 1 1
one_place c i put listed =
    record {
      put = just_one _ (ap (λ (is : List KnownInstance). length is) put);
      listed = at_one _ (ap (λ (rs : List KnownRun). length rs) listed);
    }

turn_nothing : IsTurn nothing
turn_nothing = record { place = no_place no_change refl refl; still = λ p. refl }

turn_calling : (call : Call) → IsTurn (reply_with_call call)
turn_calling call = record { place = no_place no_change refl refl; still = λ p. refl }

turn_proposing : (b : Bool) (k : Knowledge) (i : KnownInstance) (s : Step) (after : After)
    → IsTurn (proposing_if b k i s after [])
turn_proposing true k i s after =
    record { place = one_place _ (waiting_instance i (proposal k i s) after) refl refl; still = λ p. absurd p }
turn_proposing false k i s after = turn_nothing

turn_spawning : (i : KnownInstance) (o : Owed) (r : Result ℕ CookieFault) → IsTurn (spawning_by i o r)
turn_spawning i o (Ok cookie) = record { place = no_place no_change refl refl; still = λ p. refl }
turn_spawning i o (Err e) = turn_nothing

turn_built_in : (i : KnownInstance) (o : Owed) (call : Call) → (IsSpawn call → ⊥) → IsTurn (built_in i o call)
turn_built_in i o call never = record { place = no_place _ refl refl; still = λ p. absurd (never p) }

no_spawn_if : (b : Bool) (c : ℕ) → IsSpawn (if b then calls.Nothing else calls.Kill c) → ⊥
no_spawn_if true c p = p
no_spawn_if false c p = p

no_spawn : (o : Option KnownRun) → IsSpawn (kill_of o) → ⊥
no_spawn None p = p
no_spawn (Some r) p = no_spawn_if r.empty r.contract p

turn_begun : (k : Knowledge) (i : KnownInstance) (o : Owed) (b : Option Builtin) → IsTurn (begun_by k i o b)
turn_begun k i o None =
    turn_spawning i o (bits_of_cookie (record { instance = i.instance; run = o.run; method = o.method }))
turn_begun k i o (Some builtins.True) = turn_built_in i o calls.Nothing (λ p. p)
turn_begun k i o (Some builtins.Kill) =
    turn_built_in i o (kill_of (known_run k i.instance i.row.live)) (no_spawn (known_run k i.instance i.row.live))

turn_ending : (k : Knowledge) (i : KnownInstance) (e : Ending) (call : Call) → IsTurn (ending_by k i e call)
turn_ending k i e calls.Nothing =
    turn_proposing (nat_lt k.serial greatest_serial && nat_lt i.row.number greatest_word) k i _ afters.Idle
turn_ending k i e calls.List = turn_calling calls.List
turn_ending k i e (calls.Adopt c) = turn_calling (calls.Adopt c)
turn_ending k i e (calls.Spawn cookie terms) = turn_calling (calls.Spawn cookie terms)
turn_ending k i e (calls.Kill c) = turn_calling (calls.Kill c)

turn_noted : (k : Knowledge) (i : KnownInstance) (live : Option KnownRun) (o : Option ℕ) → IsTurn (noted_by k i live o)
turn_noted k i live None = turn_nothing
turn_noted k i live (Some bits) =
    turn_proposing (nat_lt k.serial greatest_serial && nat_lt i.row.number greatest_word) k i _ afters.Idle

turn_adopting : (o : Option KnownRun) (r : Reply) → IsTurn r → IsTurn (adopting_or o r)
turn_adopting None r h = h
turn_adopting (Some x) r h = turn_calling (calls.Adopt x.contract)

turn_in : (k : Knowledge) (i : KnownInstance) (p : Phase) → IsTurn (ticked_in k i p)
turn_in k i (Waiting p after) = record { place = no_place no_change refl refl; still = λ q. refl }
turn_in k i (Running m) = turn_nothing
turn_in k i (Owes o) = turn_adopting (orphan k i.instance) _ (turn_begun k i o (builtin o.call.command))
turn_in k i (Ends e) = turn_adopting (orphan k i.instance) _ (turn_ending k i e (drain_call k i e.drain))
turn_in k i Idle =
    turn_adopting (orphan k i.instance) _
    (turn_noted k i (known_run k i.instance i.row.live) (note_due i.row (known_run k i.instance i.row.live)))

turn_known : (k : Knowledge) (o : Option KnownInstance) → IsTurn (ticked_known k o)
turn_known k None = turn_nothing
turn_known k (Some i) = turn_in k i i.phase

turn_up : (k : Knowledge) (n : ℕ) (s : Stage) → IsTurn (ticked_up k n s)
turn_up k n Joining = turn_nothing
turn_up k n Listing = turn_nothing
turn_up k n Up = turn_known k (known_instance k n)

turn_ticked : (k : Knowledge) (n : ℕ) → IsTurn (reply_to_tick k n)
unfolding reply_to_tick
turn_ticked k n = turn_up k n k.stage

pub ticked_place : (k : Knowledge) (n : ℕ) → HasPlace (reply_to_tick k n).change 1 1
ticked_place k n = (turn_ticked k n).place

pub ticked_still : (k : Knowledge) (n : ℕ) → IsSpawn (reply_to_tick k n).call → (reply_to_tick k n).change ≡ no_change
ticked_still k n = (turn_ticked k n).still

-- The turn of a restarter does one of three things with runs. It notes a run that was known, lists all contracts, or
-- begins a method in a contract and notes its run.
use Rattle.std.proofs.Common.{◌≡◌, ◌&&◌, nat_lt, ℕ, Bool, true, false, List, [], ◌∷◌, Option, Some, None, Result, Ok, Err, refl, sym, ap, ◌∙◌, subst}
use Rattle.std.specs.Prelude.{find, flat_map}
use Rattle.smf_contract.specs.declared.cookie.CookieFault.{CookieFault}
use Rattle.smf_contract.specs.declared.fault.ContractFault.{ContractFault}
use Rattle.smf_contract.specs.Calls.{result_of_adoption, next_contract}
use Rattle.smf_contract.specs.Cookies.{bits_of_cookie}
use Rattle.smf_contract.specs.Entries.{Contracts, statuses}
use Rattle.smf_method.specs.declared.command.Builtin.{Builtin}
use Rattle.smf_method.specs.declared.command.Builtin.TheVariants as builtins
use Rattle.smf_method.specs.Commands.{builtin}
use Rattle.smf_state.specs.declared.step.Step.{Step}
use Rattle.smf_restarter.specs.declared.known.After.{After}
use Rattle.smf_restarter.specs.declared.known.Ending.{Ending}
use Rattle.smf_restarter.specs.declared.known.KnownInstance.{KnownInstance}
use Rattle.smf_restarter.specs.declared.known.KnownRun.{KnownRun}
use Rattle.smf_restarter.specs.declared.known.Owed.{Owed}
use Rattle.smf_restarter.specs.declared.known.Phase.{Phase}
use Rattle.smf_restarter.specs.declared.known.Phase.TheVariants.{Idle, Waiting, Owes, Running, Ending as Ends}
use Rattle.smf_restarter.specs.declared.known.Stage.{Stage}
use Rattle.smf_restarter.specs.declared.known.Stage.TheVariants.{Joining, Listing, Up}
use Rattle.smf_restarter.specs.declared.reply.Answer.{Answer}
use Rattle.smf_restarter.specs.declared.reply.Answer.TheVariants as answers
use Rattle.smf_restarter.specs.declared.reply.Begun.{Begun}
use Rattle.smf_restarter.specs.declared.reply.Call.{Call}
use Rattle.smf_restarter.specs.declared.reply.Call.TheVariants as calls
use Rattle.smf_restarter.specs.declared.reply.KnowledgeChange.{KnowledgeChange}
use Rattle.smf_restarter.specs.declared.reply.Reply.{Reply}
use Rattle.smf_restarter.specs.Answers.{adopted_run, change_on_answer, answered_in, answered_known, answered_owed, is_of_contract, change_on_list, listed_in, run_begun}
use Rattle.smf_restarter.specs.Changes.{reply_with_method, reply_with_call, nothing, no_change}
use Rattle.smf_restarter.specs.Knowledge.{Knowledge, known_instance}
use Rattle.smf_restarter.specs.Orders.{greatest_serial, greatest_word, reply_with_proposal, proposing_if}
use Rattle.smf_restarter.specs.Runs.{known_run, listed_run, orphan}
use Rattle.smf_restarter.specs.Ticks.{adopting_or, begun_by, begun_of, built_in, drain_call, ending_by, kill_of, note_due, noted_by, own_tick, spawning_by, terms_of, reply_to_tick, ticked_in, ticked_known, ticked_up}
use Rattle.smf_world.specs.declared.event.SpawnAnswer.{SpawnAnswer}
use Rattle.smf_world.specs.declared.event.SpawnAnswer.TheVariants as spawning
use Rattle.smf_world.specs.declared.item.Item.{Item}
use Rattle.smf_world.specs.Safe.{is_start}
use Rattle.smf_world.specs.Worked.{adopt_answer, answer_of, begun_in, begun_item, begun_items, change_after, spawn_answer}
use Rattle.smf_world.specs.World.{World}
use Rattle.smf_safety.proofs.KnowReplies.{at_known}
use Rattle.smf_safety.proofs.KnowSteps.{IsAt}
use Rattle.smf_safety.proofs.KnowTicks.{IsKill, drain_kills, kill, kill_of_kills, none}
use Rattle.smf_safety.proofs.LiveClauses.{IsAmong, Lives, begun_run, live_runs}
use Rattle.smf_safety.proofs.LiveKnown.{IsTrue, RunsAreTrue, each_found}
use Rattle.smf_safety.proofs.LiveTrue.{AddsNone, IsNoting, unchanged_notes}

-- the change of a turn, and the methods that it begins
pub data Turns (w : World) (k : Knowledge) (c : KnowledgeChange) (begun : List Item) : Type 0 where
  tells : IsNoting w.trail c → AddsNone begun → Turns w k c begun
  enlists : c.listed ≡ flat_map (listed_run k) (statuses w.table) → c.run ≡ None → AddsNone begun → Turns w k c begun
  starts : (i : KnownInstance) (o : Owed) (contract : ℕ) → IsAt k i → i.phase ≡ Owes o → k.stage ≡ Up → c.listed ≡ []
      → c.run ≡ Some (run_begun i.instance o contract)
      → begun ≡ begun_item contract (begun_of i o) ∷ [] → Turns w k c begun

-- by the answer to what it asks of the contracts
abbrev pub TurnsBy : World → Knowledge → ℕ → Reply → Answer → Type 0
TurnsBy w k n r a = Turns w k (change_after w k n r r.call a) (begun_items (begun_in r.call a) r.begun)

abbrev pub TurnsOn : World → Knowledge → ℕ → SpawnAnswer → Reply → Type 0
TurnsOn w k n spawn r = TurnsBy w k n r (answer_of w.table k.actor spawn r.call)

tells_none : (w : World) (k : Knowledge) (c : KnowledgeChange) → IsNoting w.trail c → Turns w k c []
tells_none w k c is = tells is (λ t n run l. l)

stays : (w : World) (k : Knowledge) (n : ℕ) (spawn : SpawnAnswer) → TurnsOn w k n spawn nothing
unfolding answer_of
stays w k n spawn = tells_none w k no_change (unchanged_notes w.trail)

-- ---- proposals

proposes_if : (w : World) (k : Knowledge) (n : ℕ) (spawn : SpawnAnswer) (b : Bool) (i : KnownInstance) (step : Step)
    (after : After) → TurnsOn w k n spawn (proposing_if b k i step after [])
unfolding answer_of
proposes_if w k n spawn true i step after = tells_none w k _ (record { listed = refl; stage = tt; run = tt })
proposes_if w k n spawn false i step after = stays w k n spawn

proposes_turns : (w : World) (k : Knowledge) (n : ℕ) (spawn : SpawnAnswer) (i : KnownInstance) (step : Step)
    (after : After) → TurnsOn w k n spawn (reply_with_proposal k i step after [])
proposes_turns w k n spawn i step after =
    proposes_if w k n spawn (nat_lt k.serial greatest_serial && nat_lt i.row.number greatest_word) i step after

-- ---- answers to calls

abbrev IsUnspawned : Answer → Type 0
IsUnspawned answers.Nothing = Unit {0}
IsUnspawned (answers.Adopted c) = Unit {0}
IsUnspawned (answers.Spawned c) = ⊥
IsUnspawned answers.Refused = Unit {0}
IsUnspawned answers.NotFollowed = Unit {0}

owed_notes : (t : List Item) (i : KnownInstance) (o : Owed) (a : Answer) → IsUnspawned a
    → IsNoting t (answered_owed i o a)
owed_notes t i o answers.Nothing u = unchanged_notes t
owed_notes t i o (answers.Adopted c) u = unchanged_notes t
owed_notes t i o (answers.Spawned c) u = absurd u
owed_notes t i o answers.Refused u = record { listed = refl; stage = tt; run = tt }
owed_notes t i o answers.NotFollowed u = record { listed = refl; stage = tt; run = tt }

phase_notes : (t : List Item) (i : KnownInstance) (a : Answer) (p : Phase) → IsUnspawned a
    → IsNoting t (answered_in i a p)
phase_notes t i a Idle u = unchanged_notes t
phase_notes t i a (Waiting p after) u = unchanged_notes t
phase_notes t i a (Owes o) u = owed_notes t i o a u
phase_notes t i a (Running m) u = unchanged_notes t
phase_notes t i a (Ends e) u = unchanged_notes t

answer_notes : (t : List Item) (a : Answer) (o : Option KnownInstance) → IsUnspawned a → IsNoting t (answered_known a o)
answer_notes t a None u = unchanged_notes t
answer_notes t a (Some i) u = phase_notes t i a i.phase u

-- a run that is adopted is as alive as it was
adopted_notes : (t : List Item) (k : Knowledge) (c : ℕ) (o : Option KnownRun) → find (is_of_contract c) k.runs ≡ o
    → RunsAreTrue t k → IsNoting t (adopted_run o)
adopted_notes t k c None e a = unchanged_notes t
adopted_notes t k c (Some r) e a =
    let x : IsTrue t r = each_found (IsTrue t) (is_of_contract c) k.runs r a e in
    record { listed = refl; stage = tt; run = (record { begun = x.begun; dead = x.dead }, tt) }

adopts_by : (w : World) (k : Knowledge) (n : ℕ) (c : ℕ) (r : Result Contracts ContractFault) → RunsAreTrue w.trail k
    → TurnsBy w k n (reply_with_call (calls.Adopt c)) (adopt_answer c r)
unfolding change_on_answer
adopts_by w k n c (Ok t) a = tells_none w k _ (adopted_notes w.trail k c (find (is_of_contract c) k.runs) refl a)
adopts_by w k n c (Err e) a = tells_none w k _ (answer_notes w.trail answers.Nothing (known_instance k n) tt)

adopting_turns : (w : World) (k : Knowledge) (n : ℕ) (spawn : SpawnAnswer) (o : Option KnownRun) (r : Reply)
    → RunsAreTrue w.trail k → TurnsOn w k n spawn r → TurnsOn w k n spawn (adopting_or o r)
unfolding answer_of
adopting_turns w k n spawn None r a d = d
adopting_turns w k n spawn (Some run) r a d =
    adopts_by w k n run.contract (result_of_adoption w.table k.actor run.contract) a

-- ---- methods

-- a built-in has no contract
built_none : (b : Begun) → AddsNone (begun_item 0 b ∷ [])
built_none b t n run l = by (is_start b.method) l
  where
    by : (x : Bool) → IsAmong n run (begun_run x 0 b.instance b.run (live_runs t)) → Lives n run t
    by true m = m
    by false m = m

built_turns : (w : World) (k : Knowledge) (n : ℕ) (spawn : SpawnAnswer) (i : KnownInstance) (o : Owed) (call : Call)
    → IsKill call → TurnsOn w k n spawn (built_in i o call)
unfolding answer_of
built_turns w k n spawn i o call (none e) =
    subst (λ (x : Call). TurnsOn w k n spawn (built_in i o x)) (sym e)
    (tells (record { listed = refl; stage = tt; run = tt }) (built_none (begun_of i o)))
built_turns w k n spawn i o call (kill c e) =
    subst (λ (x : Call). TurnsOn w k n spawn (built_in i o x)) (sym e)
    (tells (record { listed = refl; stage = tt; run = tt }) (built_none (begun_of i o)))

answered_at : (k : Knowledge) (n : ℕ) (i : KnownInstance) (o : Owed) (a : Answer) → known_instance k n ≡ Some i
    → i.phase ≡ Owes o → answered_known a (known_instance k n) ≡ answered_owed i o a
answered_at k n i o a e f = ap (answered_known a) e ∙ ap (answered_in i a) f

spawns_by : (w : World) (k : Knowledge) (n : ℕ) (i : KnownInstance) (o : Owed) (cookie : ℕ) (a : SpawnAnswer)
    (next : Option ℕ) → k.stage ≡ Up → known_instance k n ≡ Some i → i.phase ≡ Owes o
    → TurnsBy w k n (reply_with_method (begun_of i o) (calls.Spawn cookie (terms_of o.method i.row)) no_change)
    (spawn_answer a next)
unfolding change_on_answer
spawns_by w k n i o cookie spawning.Made (Some c) up e f =
    starts i o c (at_known k n i e).1 f up
    (ap (λ (x : KnowledgeChange). x.listed) (answered_at k n i o (answers.Spawned c) e f))
    (ap (λ (x : KnowledgeChange). x.run) (answered_at k n i o (answers.Spawned c) e f)) refl
spawns_by w k n i o cookie spawning.Made None up e f =
    tells_none w k _ (answer_notes w.trail answers.Refused (known_instance k n) tt)
spawns_by w k n i o cookie spawning.Refused next up e f =
    tells_none w k _ (answer_notes w.trail answers.Refused (known_instance k n) tt)
spawns_by w k n i o cookie spawning.NotFollowed next up e f =
    tells_none w k _ (answer_notes w.trail answers.NotFollowed (known_instance k n) tt)

spawning_turns : (w : World) (k : Knowledge) (n : ℕ) (spawn : SpawnAnswer) (i : KnownInstance) (o : Owed)
    (r : Result ℕ CookieFault) → k.stage ≡ Up → known_instance k n ≡ Some i → i.phase ≡ Owes o
    → TurnsOn w k n spawn (spawning_by i o r)
unfolding answer_of
spawning_turns w k n spawn i o (Err fault) up e f = stays w k n spawn
spawning_turns w k n spawn i o (Ok cookie) up e f = spawns_by w k n i o cookie spawn (next_contract w.table) up e f

begun_turns : (w : World) (k : Knowledge) (n : ℕ) (spawn : SpawnAnswer) (i : KnownInstance) (o : Owed)
    (b : Option Builtin) → k.stage ≡ Up → known_instance k n ≡ Some i → i.phase ≡ Owes o
    → TurnsOn w k n spawn (begun_by k i o b)
begun_turns w k n spawn i o None up e f =
    spawning_turns w k n spawn i o (bits_of_cookie (record { instance = i.instance; run = o.run; method = o.method }))
    up e f
begun_turns w k n spawn i o (Some builtins.True) up e f = built_turns w k n spawn i o calls.Nothing (none refl)
begun_turns w k n spawn i o (Some builtins.Kill) up e f =
    built_turns w k n spawn i o (kill_of (known_run k i.instance i.row.live))
    (kill_of_kills (known_run k i.instance i.row.live))

-- ---- ends and notes

ending_turns : (w : World) (k : Knowledge) (n : ℕ) (spawn : SpawnAnswer) (i : KnownInstance) (e : Ending)
    (call : Call) → IsKill call → TurnsOn w k n spawn (ending_by k i e call)
unfolding answer_of
ending_turns w k n spawn i e call (none g) =
    subst (λ (x : Call). TurnsOn w k n spawn (ending_by k i e x)) (sym g) (proposes_turns w k n spawn i _ _)
ending_turns w k n spawn i e call (kill c g) =
    subst (λ (x : Call). TurnsOn w k n spawn (ending_by k i e x)) (sym g)
    (tells_none w k no_change (unchanged_notes w.trail))

note_turns : (w : World) (k : Knowledge) (n : ℕ) (spawn : SpawnAnswer) (i : KnownInstance) (live : Option KnownRun)
    (o : Option ℕ) → TurnsOn w k n spawn (noted_by k i live o)
note_turns w k n spawn i live None = stays w k n spawn
note_turns w k n spawn i live (Some bits) = proposes_turns w k n spawn i _ _

-- ---- turns

phase_turns : (w : World) (k : Knowledge) (n : ℕ) (spawn : SpawnAnswer) (i : KnownInstance) (p : Phase)
    → RunsAreTrue w.trail k → k.stage ≡ Up → known_instance k n ≡ Some i → i.phase ≡ p
    → TurnsOn w k n spawn (ticked_in k i p)
unfolding answer_of
phase_turns w k n spawn i (Waiting p after) a up e f = tells_none w k no_change (unchanged_notes w.trail)
phase_turns w k n spawn i (Running m) a up e f = stays w k n spawn
phase_turns w k n spawn i (Owes o) a up e f =
    adopting_turns w k n spawn (orphan k i.instance) _ a (begun_turns w k n spawn i o (builtin o.call.command) up e f)
phase_turns w k n spawn i (Ends x) a up e f =
    adopting_turns w k n spawn (orphan k i.instance) _ a
    (ending_turns w k n spawn i x (drain_call k i x.drain) (drain_kills k i x.drain))
phase_turns w k n spawn i Idle a up e f =
    let live : Option KnownRun = known_run k i.instance i.row.live in
    adopting_turns w k n spawn (orphan k i.instance) _ a (note_turns w k n spawn i live (note_due i.row live))

known_turns : (w : World) (k : Knowledge) (n : ℕ) (spawn : SpawnAnswer) (o : Option KnownInstance)
    → RunsAreTrue w.trail k → k.stage ≡ Up → known_instance k n ≡ o → TurnsOn w k n spawn (ticked_known k o)
known_turns w k n spawn None a up e = stays w k n spawn
known_turns w k n spawn (Some i) a up e = phase_turns w k n spawn i i.phase a up e refl

up_turns : (w : World) (k : Knowledge) (n : ℕ) (spawn : SpawnAnswer) (s : Stage) → RunsAreTrue w.trail k → k.stage ≡ s
    → TurnsOn w k n spawn (ticked_up k n s)
up_turns w k n spawn Up a e = known_turns w k n spawn (known_instance k n) a e refl
up_turns w k n spawn Joining a e = stays w k n spawn
up_turns w k n spawn Listing a e = stays w k n spawn

-- its turn for an instance
pub ticked_turns : (w : World) (k : Knowledge) (n : ℕ) (spawn : SpawnAnswer) → RunsAreTrue w.trail k
    → TurnsOn w k n spawn (reply_to_tick k n)
unfolding reply_to_tick
ticked_turns w k n spawn a = up_turns w k n spawn k.stage a refl

-- its turn for itself
pub own_turns : (w : World) (k : Knowledge) (s : Stage) → k.stage ≡ s → TurnsOn w k 0 spawning.Made (own_tick k s)
unfolding own_tick answer_of change_on_list
own_turns w k Joining e = tells_none w k no_change (unchanged_notes w.trail)
own_turns w k Listing e =
    subst (λ (c : KnowledgeChange). Turns w k c []) (ap (listed_in k (statuses w.table)) (sym e))
    (enlists refl refl (λ t n run l. l))
own_turns w k Up e = tells_none w k no_change (unchanged_notes w.trail)

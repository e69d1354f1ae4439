-- A turn for an instance: its request to children, beside the call of its restarter.
use Rattle.std.proofs.Common.{◌≡◌, ℕ, ◌&&◌, Bool, true, false, List, Option, Some, None, refl, sym, subst}
use Rattle.smf_contract.specs.Entries.{Contracts}
use Rattle.smf_contract.specs.declared.terms.Terms.{Terms}
use Rattle.smf_restarter.specs.Knowledge.{Knowledge}
use Rattle.smf_restarter.specs.Ticks.{reply_to_tick}
use Rattle.smf_restarter.specs.declared.known.KnownInstance.{KnownInstance}
use Rattle.smf_restarter.specs.declared.reply.Begun.{Begun}
use Rattle.smf_restarter.specs.declared.reply.Call.{Call}
use Rattle.smf_restarter.specs.declared.reply.Call.TheVariants as calls
use Rattle.smf_world.specs.declared.event.SpawnAnswer.TheVariants as spawns
use Rattle.smf_world.specs.Schedule.{Progress, asks_spawn, is_spawn, refuses}
use Rattle.smf_world.specs.Worked.{restarter}
use Rattle.smf_world.specs.World.{World}
use Rattle.smf_machine.specs.declared.requests.MethodRequest.{MethodRequest}
use Rattle.smf_machine.specs.declared.requests.MethodRequest.TheVariants.{Nothing, Unnumbered, Spawn, Kill}
use Rattle.smf_machine.specs.Requests.{request_of_turn, asked_by, asked_of, kill_if, spawn_request, wanted_in}
use Rattle.smf_script.specs.Moves.{IsUnmade}

-- ---- what is asked

abbrev is_kill : Call → Bool
is_kill (calls.Kill c) = true
is_kill _ = false

-- the turn of a restarter for an instance asks for a kill
abbrev asks_kill : Option Knowledge → ℕ → Bool
asks_kill None n = false
asks_kill (Some k) n = is_kill (reply_to_tick k n).call

abbrev AsksSpawn : MethodRequest → Call → Type 0
AsksSpawn Nothing c = Unit {0}
AsksSpawn Unnumbered c = is_spawn c ≡ true
AsksSpawn (Spawn start) c = is_spawn c ≡ true
AsksSpawn (Kill id) c = is_kill c ≡ true

want_is : (name : List ℕ) (c cookie : ℕ) (terms : Terms) (i : Option KnownInstance) (b : Option Begun) (call : Call)
    → is_spawn call ≡ true → AsksSpawn (spawn_request name c cookie terms i b) call
want_is name c cookie terms (Some i) (Some b) call e = e
want_is name c cookie terms None (Some b) call e = e
want_is name c cookie terms None None call e = e
want_is name c cookie terms (Some i) None call e = e

want_in_is : (name : List ℕ) (c : Option ℕ) (cookie : ℕ) (terms : Terms) (i : Option KnownInstance) (b : Option Begun)
    (call : Call) → is_spawn call ≡ true → AsksSpawn (wanted_in name c cookie terms i b) call
want_in_is name (Some c) cookie terms i b call e = want_is name c cookie terms i b call e
want_in_is name None cookie terms i b call e = e

kill_is : (b : Bool) (c : ℕ) (call : Call) → is_kill call ≡ true → AsksSpawn (kill_if b c) call
kill_is true c call e = e
kill_is false c call e = tt

asks_by : (t : Contracts) (k : Knowledge) (n : ℕ) (b : Option Begun) (c : Call) → AsksSpawn (asked_by t k n b c) c
asks_by t k n b (calls.Spawn cookie terms) = want_in_is _ _ cookie terms _ b (calls.Spawn cookie terms) refl
asks_by t k n b (calls.Kill c) = kill_is _ c (calls.Kill c) refl
asks_by t k n b calls.Nothing = tt
asks_by t k n b calls.List = tt
asks_by t k n b (calls.Adopt c) = tt

-- a process is asked for if the turn asks for a spawn, and an end if it asks for a kill
abbrev pub IsAskedFor : MethodRequest → Option Knowledge → ℕ → Type 0
IsAskedFor Nothing k n = Unit {0}
IsAskedFor Unnumbered k n = asks_spawn k n ≡ true
IsAskedFor (Spawn start) k n = asks_spawn k n ≡ true
IsAskedFor (Kill id) k n = asks_kill k n ≡ true

turned_for : (a : MethodRequest) (k : Knowledge) (n : ℕ) → AsksSpawn a (reply_to_tick k n).call
    → IsAskedFor a (Some k) n
turned_for Nothing k n h = tt
turned_for Unnumbered k n h = h
turned_for (Spawn start) k n h = h
turned_for (Kill id) k n h = h

asked_for_of : (t : Contracts) (k : Option Knowledge) (n : ℕ) → IsAskedFor (asked_of t k n) k n
asked_for_of t None n = tt
asked_for_of t (Some k) n = turned_for _ k n (asks_by t k n _ (reply_to_tick k n).call)

pub asked_for : (w : World) (name : List ℕ) (n : ℕ) (a : MethodRequest) → a ≡ request_of_turn w name n
    → IsAskedFor a (restarter w name) n
unfolding request_of_turn
asked_for w name n a e = let P : MethodRequest → Type 0 = λ x. IsAskedFor x (restarter w name) n in
    subst P (sym e) (asked_for_of w.table (restarter w name) n)

-- if the turn asks for a spawn, it asks for nothing else
abbrev AsksAlike : MethodRequest → Option Knowledge → ℕ → Type 0
AsksAlike Nothing k n = asks_spawn k n ≡ true → ⊥
AsksAlike Unnumbered k n = Unit {0}
AsksAlike (Spawn start) k n = Unit {0}
AsksAlike (Kill id) k n = asks_spawn k n ≡ true → ⊥

abbrev IsOther : MethodRequest → Call → Type 0
IsOther Nothing c = is_spawn c ≡ true → ⊥
IsOther Unnumbered c = Unit {0}
IsOther (Spawn start) c = Unit {0}
IsOther (Kill id) c = is_spawn c ≡ true → ⊥

want_other : (name : List ℕ) (c cookie : ℕ) (terms : Terms) (i : Option KnownInstance) (b : Option Begun) (call : Call)
    → IsOther (spawn_request name c cookie terms i b) call
want_other name c cookie terms (Some i) (Some b) call = tt
want_other name c cookie terms None (Some b) call = tt
want_other name c cookie terms None None call = tt
want_other name c cookie terms (Some i) None call = tt

want_in_other : (name : List ℕ) (c : Option ℕ) (cookie : ℕ) (terms : Terms) (i : Option KnownInstance)
    (b : Option Begun) (call : Call) → IsOther (wanted_in name c cookie terms i b) call
want_in_other name (Some c) cookie terms i b call = want_other name c cookie terms i b call
want_in_other name None cookie terms i b call = tt

kill_other : (b : Bool) (c : ℕ) (call : Call) → (is_spawn call ≡ true → ⊥) → IsOther (kill_if b c) call
kill_other true c call h = h
kill_other false c call h = h

others : (t : Contracts) (k : Knowledge) (n : ℕ) (b : Option Begun) (c : Call) → IsOther (asked_by t k n b c) c
others t k n b (calls.Spawn cookie terms) = want_in_other _ _ cookie terms _ b (calls.Spawn cookie terms)
others t k n b (calls.Kill c) = kill_other _ c (calls.Kill c) (λ e. absurd cc)
others t k n b calls.Nothing = λ e. absurd cc
others t k n b calls.List = λ e. absurd cc
others t k n b (calls.Adopt c) = λ e. absurd cc

alike : (a : MethodRequest) (k : Knowledge) (n : ℕ) → IsOther a (reply_to_tick k n).call → AsksAlike a (Some k) n
alike Nothing k n h = h
alike Unnumbered k n h = tt
alike (Spawn start) k n h = tt
alike (Kill id) k n h = h

asks_alike : (t : Contracts) (k : Option Knowledge) (n : ℕ) → AsksAlike (asked_of t k n) k n
asks_alike t None n = λ e. absurd cc
asks_alike t (Some k) n = alike _ k n (others t k n _ (reply_to_tick k n).call)

and_right : (a b : Bool) → (a && b) ≡ true → b ≡ true
and_right true b e = e
and_right false b e = absurd cc

-- if the schedule refuses a spawn, the turn may go on without it
unmade_by : (k : Option Knowledge) (n : ℕ) (a : MethodRequest) → IsAskedFor a k n → AsksAlike a k n
    → asks_spawn k n ≡ true → IsUnmade a spawns.Refused
unmade_by k n Nothing h alike e = absurd (alike e)
unmade_by k n Unnumbered h alike e = tt
unmade_by k n (Spawn start) h alike e = tt
unmade_by k n (Kill id) h alike e = absurd (alike e)

pub unmade_refused : (p : Progress) (name : List ℕ) (n : ℕ) → refuses p name n ≡ true
    → IsUnmade (request_of_turn p.world name n) spawns.Refused
unfolding request_of_turn
unmade_refused p name n e =
    let k : Option Knowledge = restarter p.world name in
    unmade_by k n (asked_of p.world.table k n) (asked_for_of p.world.table k n) (asks_alike p.world.table k n)
    (and_right _ _ e)

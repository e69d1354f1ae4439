-- A drive, move by move. Each move is at most one call of the children that changes their ledger, with the event that
-- it is to the node.
use Rattle.std.specs.Prelude.{◌≡◌, ℕ, zero, suc, List, Bool, true, false, Some}
use Rattle.smf_contract.specs.declared.event.ContractEvent.{ContractEvent}
use Rattle.smf_edge.specs.declared.start.Start.{Start}
use Rattle.smf_edge.specs.Ledgers.{Ledger, run_of}
use Rattle.smf_edge.specs.Steps.{IsKilled, IsPolled, IsSpawned}
use Rattle.smf_machine.specs.Children.{world_after_news, news_of}
use Rattle.smf_world.specs.declared.event.Event.{Event}
use Rattle.smf_world.specs.declared.event.Event.TheVariants as events
use Rattle.smf_world.specs.declared.event.SpawnAnswer.{SpawnAnswer}
use Rattle.smf_world.specs.declared.event.SpawnAnswer.TheVariants as spawns
use Rattle.smf_world.specs.Happens.{happens}
use Rattle.smf_world.specs.World.{World}
use Rattle.smf_machine.specs.declared.requests.MethodRequest.{MethodRequest}
use Rattle.smf_machine.specs.declared.requests.MethodRequest.TheVariants.{Nothing, Unnumbered, Spawn, Kill}
use Rattle.smf_machine.specs.Requests.{request_of_turn}

-- An event in which children have no part. It is no client's command, crash or boot, no turn for an instance, and
-- nothing that happens to a process.
abbrev pub is_alone : Event → Bool
is_alone (events.Client edit) = false
is_alone (events.Crash name) = false
is_alone events.Boot = false
is_alone (events.Tick name n spawn) = false
is_alone (events.Process p what) = false
is_alone _ = true

-- a turn that asks nothing of children goes on; one that asks for a spawn may go on without it
abbrev pub IsUnmade : MethodRequest → SpawnAnswer → Type 0
IsUnmade Nothing spawns.Made = Unit {0}
IsUnmade Nothing _ = ⊥
IsUnmade Unnumbered spawns.Made = ⊥
IsUnmade Unnumbered _ = Unit {0}
IsUnmade (Spawn start) spawns.Made = ⊥
IsUnmade (Spawn start) _ = Unit {0}
IsUnmade (Kill id) a = ⊥

-- one move leads from a world and what children keep to another world and what they keep then
pub data IsMove (w v : World) (l m : Ledger) : Type 0 where
  alone : (e : Event) → is_alone e ≡ true → v ≡ happens w e → m ≡ l → IsMove w v l m
  unmade : (name : List ℕ) (n : ℕ) (a : SpawnAnswer) → IsUnmade (request_of_turn w name n) a
      → v ≡ happens w (events.Tick name n a) → m ≡ l → IsMove w v l m
  spawned : (name : List ℕ) (n : ℕ) (start : Start) → request_of_turn w name n ≡ Spawn start
      → IsSpawned (run_of start) l m → v ≡ happens w (events.Tick name n spawns.Made) → IsMove w v l m
  killed : (name : List ℕ) (n id : ℕ) → request_of_turn w name n ≡ Kill id → IsKilled id l m
      → v ≡ happens w (events.Tick name n spawns.Made) → IsMove w v l m
  polled : (e : ContractEvent) → IsPolled (Some e) l m → v ≡ world_after_news (news_of w.table e) w → IsMove w v l m

abbrev pub AreMoves : ℕ → World → World → Ledger → Ledger → Type 0
AreMoves zero w v l m = (v ≡ w) × (m ≡ l)
AreMoves (suc k) w v l m = (u : World) × (k' : Ledger) × IsMove w u l k' × AreMoves k u v k' m

-- moves lead there
abbrev pub Moves : World → World → Ledger → Ledger → Type 0
Moves w v l m = (k : ℕ) × AreMoves k w v l m

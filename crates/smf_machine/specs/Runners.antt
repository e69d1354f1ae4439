-- Who runs the methods that restarters begin: children, which answer what is asked of them, or nobody, and then the contract
-- table alone answers.
use Rattle.std.specs.Prelude.{◌≡◌, ◌⊎◌, ℕ, List, [], Bool, true, false, Option, Some, None}
use Rattle.smf_contract.specs.declared.event.ContractEvent.{ContractEvent}
use Rattle.smf_contract.specs.Entries.{empty}
use Rattle.smf_edge.specs.declared.start.Start.{Start}
use Rattle.smf_edge.specs.Answers.{MayFail, Seen, Skills}
use Rattle.smf_edge.specs.Ledgers.{Ledger, members_left, run_of}
use Rattle.smf_edge.specs.Steps.{IsKilled, IsPolled, IsSpawned}
use Rattle.smf_world.specs.declared.event.Event.TheVariants as events
use Rattle.smf_world.specs.declared.event.SpawnAnswer.{SpawnAnswer}
use Rattle.smf_world.specs.declared.event.SpawnAnswer.TheVariants as spawns
use Rattle.smf_world.specs.Happens.{happens}
use Rattle.smf_world.specs.World.{World}
use Rattle.smf_machine.specs.declared.requests.MethodRequest.{MethodRequest}
use Rattle.smf_machine.specs.declared.requests.MethodRequest.TheVariants.{Nothing, Unnumbered, Spawn, Kill}
use Rattle.smf_machine.specs.Children.{happens_if}
use Rattle.smf_machine.specs.Requests.{request_of_turn}

-- the rules for the answers to a spawn, to a kill and to a question for an event, by what was seen before and after, and what
-- is so if memory ran out
pub record Rules : Type 1 where
  pub spawns : Start → SpawnAnswer → Seen → Seen → Type 0
  pub kills : ℕ → Bool → Seen → Seen → Type 0
  pub polls : Option ContractEvent → Seen → Seen → Type 0
  pub lacks_memory : Type 0

-- ---- children

-- a spawn is made if the service is followed. Nothing is made if it is not followed, or if the run is refused
abbrev pub HasSpawned : Skills → Start → SpawnAnswer → Ledger → Ledger → Type 0
HasSpawned k start spawns.Made l m = (k.follows start.style ≡ true) × IsSpawned (run_of start) l m
HasSpawned k start spawns.Refused l m = (k.follows start.style ≡ true) × k.may_refuse l start.contract × (m ≡ l)
HasSpawned k start spawns.NotFollowed l m = (k.follows start.style ≡ false) × (m ≡ l)

-- a kill is done, or else no member was left or a device failed
abbrev pub HasKilled : Skills → ℕ → Bool → Seen → Seen → Type 0
HasKilled k id true s t = IsKilled id s.ledger t.ledger
HasKilled k id false s t = ((members_left s.ledger id ≡ 0) ⊎ MayFail k s.failures t.failures) × (t.ledger ≡ s.ledger)

-- an event is given, or else all is told or a device failed
abbrev pub HasGiven : Skills → Option ContractEvent → Seen → Seen → Type 0
HasGiven k (Some e) s t = IsPolled (Some e) s.ledger t.ledger
HasGiven k None s t = IsPolled None s.ledger t.ledger ⊎ (MayFail k s.failures t.failures × (t.ledger ≡ s.ledger))

abbrev pub rules_of : Skills → Rules
rules_of k =
    record {
      spawns = λ w a s t. HasSpawned k w a s.ledger t.ledger;
      kills = HasKilled k;
      polls = HasGiven k;
      lacks_memory = k.lacks_memory;
    }

-- ---- nobody

-- nobody keeps anything, and no device failed
abbrev pub seen_of_nobody : Seen
seen_of_nobody = record { ledger = record { notes = []; table = empty; due = []; pending = [] }; failures = 0 }

-- each spawn and each kill is made, there is no event, and no memory is needed
abbrev pub table_rules : Rules
table_rules =
    record {
      spawns = λ w a s t. (a ≡ spawns.Made) × (t ≡ s);
      kills = λ id did s t. (did ≡ true) × (t ≡ s);
      polls = λ o s t. (o ≡ None) × (t ≡ s);
      lacks_memory = ⊥;
    }

-- ---- a turn of a restarter for an instance

-- it is taken with the answer to what it asks for; a kill that is not done is owed again
abbrev pub TickedBy : Rules → MethodRequest → List ℕ → ℕ → World → Seen → World → Seen → Type 0
TickedBy r Nothing name n w s v t = (v ≡ happens w (events.Tick name n spawns.Made)) × (t ≡ s)
TickedBy r Unnumbered name n w s v t = (v ≡ happens w (events.Tick name n spawns.Refused)) × (t ≡ s)
TickedBy r (Spawn start) name n w s v t = (a : SpawnAnswer) × r.spawns start a s t
    × (v ≡ happens w (events.Tick name n a))
TickedBy r (Kill id) name n w s v t = (did : Bool) × r.kills id did s t
    × (v ≡ happens_if did w (events.Tick name n spawns.Made))

abbrev pub HasTicked : Rules → List ℕ → ℕ → World → Seen → World → Seen → Type 0
HasTicked r name n w s v t = TickedBy r (request_of_turn w name n) name n w s v t

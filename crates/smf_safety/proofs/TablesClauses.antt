-- The contract table, the trail, and what restarters know of contracts.
use Rattle.std.specs.Prelude.{◌≡◌, ◌≤◌, ℕ, ◌==◌, List, [], ◌∷◌, map, true, false, if◌then◌else◌, Option, Some, None}
use Rattle.smf_contract.specs.declared.contract.Contract.{Contract}
use Rattle.smf_contract.specs.declared.contract.Holder.{Holder}
use Rattle.smf_contract.specs.declared.contract.Holder.TheVariants.{Held, Inherited, Abandoned}
use Rattle.smf_contract.specs.declared.cookie.Cookie.{Cookie}
use Rattle.smf_contract.specs.declared.cookie.Method.TheVariants as methods
use Rattle.smf_contract.specs.declared.event.ContractEvent.{ContractEvent}
use Rattle.smf_contract.specs.declared.event.EventKind.TheVariants as kinds
use Rattle.smf_contract.specs.Cookies.{cookie_of_bits}
use Rattle.smf_contract.specs.Entries.{Contracts, contract, has_members}
use Rattle.smf_contract.specs.Laws.{IsOrdered}
use Rattle.smf_restarter.specs.declared.known.KnownRun.{KnownRun}
use Rattle.smf_restarter.specs.declared.known.Stage.{Stage}
use Rattle.smf_restarter.specs.declared.known.Stage.TheVariants as stages
use Rattle.smf_restarter.specs.Knowledge.{Knowledge}
use Rattle.smf_world.specs.declared.item.Item.{Item}
use Rattle.smf_world.specs.declared.item.Item.TheVariants.{Boot, Spawned}
use Rattle.smf_world.proofs.LiveLists.{Each, IsIn}
use Rattle.smf_safety.proofs.LiveClauses.{LiveRun, live_runs}

-- ---- the table and the trail

-- the instance, run and method that a contract was spawned for since the last boot
abbrev pub spawned_for : ℕ → List Item → Option Cookie
spawned_for c [] = None
spawned_for c (Spawned d i run method revision command ∷ trail) =
    if d == c then Some (record { instance = i; run = run; method = method }) else spawned_for c trail
spawned_for c (Boot ∷ trail) = None
spawned_for c (item ∷ trail) = spawned_for c trail

-- a contract by its number and its cookie, which stay
pub record Tag : Type 0 where
  pub id : ℕ
  pub cookie : ℕ

abbrev pub tag_of : Contract → Tag
tag_of c = record { id = c.id; cookie = c.cookie }

abbrev pub tags : List Contract → List Tag
tags cs = map tag_of cs

-- C.spawned: a contract was spawned since the last boot, for what its cookie says
pub record IsSpawned (trail : List Item) (g : Tag) : Type 0 where
  pub cookie : Cookie
  pub unpacks : cookie_of_bits g.cookie ≡ Some cookie
  pub spawned : spawned_for g.id trail ≡ Some cookie

abbrev pub AreSpawned : Contracts → List Item → Type 0
AreSpawned t trail = Each (IsSpawned trail) (tags t.contracts)

-- C.once: two contracts of one run of an instance are one
abbrev pub OneOfRun : Contracts → Type 0
OneOfRun t =
    (a b : Tag) (k l : Cookie) → IsIn a (tags t.contracts) → IsIn b (tags t.contracts)
    → cookie_of_bits a.cookie ≡ Some k → cookie_of_bits b.cookie ≡ Some l
    → k.instance ≡ l.instance → k.run ≡ l.run → a.id ≡ b.id

-- C.table: the contract of a start that lives is in the table, under its run, and has members
pub record IsHeldLive (t : Contracts) (l : LiveRun) : Type 0 where
  pub cookie : ℕ
  pub is_there : IsIn (record { id = l.contract; cookie = cookie }) (tags t.contracts)
  pub unpacks : cookie_of_bits cookie ≡ Some (record { instance = l.instance; run = l.run; method = methods.Start })
  pub members : has_members l.contract t.members ≡ true

abbrev pub LiveInTable : Contracts → List Item → Type 0
LiveInTable t trail = Each (IsHeldLive t) (live_runs trail)

-- C.empty: a contract that was found empty has no members
pub record EmptyIsEmpty (t : Contracts) (e : ContractEvent) : Type 0 where
  pub given : e.contract ≤ t.last_contract
  pub empty : e.kind ≡ kinds.Empty → has_members e.contract t.members ≡ false

abbrev pub AreEmpty : Contracts → Type 0
AreEmpty t = Each (EmptyIsEmpty t) t.events

-- the clauses on the table and the trail alone hold
pub record IsTable (t : Contracts) (trail : List Item) : Type 0 where
  pub ordered : IsOrdered t
  pub spawned : AreSpawned t trail
  pub live : LiveInTable t trail
  pub empty : AreEmpty t

-- ---- the table and the restarters

-- C.holder: who holds a contract is launched and up
pub record IsUpAs (ks : List Knowledge) (actor : ℕ) : Type 0 where
  pub restarter : Knowledge
  pub is_launched : IsIn restarter ks
  pub is_actor : restarter.actor ≡ actor
  pub up : restarter.stage ≡ stages.Up

abbrev pub HolderIsUp : List Knowledge → Holder → Type 0
HolderIsUp ks (Held actor) = IsUpAs ks actor
HolderIsUp ks Inherited = Unit {0}
HolderIsUp ks Abandoned = Unit {0}

abbrev pub HoldersAreUp : Contracts → List Knowledge → Type 0
HoldersAreUp t ks = Each (λ c. HolderIsUp ks c.holder) t.contracts

-- C.runs: who is not up knows no run
abbrev pub KnowsNone : Stage → List KnownRun → Type 0
KnowsNone stages.Up runs = Unit {0}
KnowsNone _ runs = runs ≡ []

abbrev pub RunsWhenUp : Knowledge → Type 0
RunsWhenUp k = KnowsNone k.stage k.runs

-- L.known: a known run's contract is in the table, under that run
pub record IsKnownIn (t : Contracts) (r : KnownRun) : Type 0 where
  pub of : Contract
  pub cookie : Cookie
  pub is_there : contract t r.contract ≡ Some of
  pub unpacks : cookie_of_bits of.cookie ≡ Some cookie
  pub instance : cookie.instance ≡ r.key.instance
  pub run : cookie.run ≡ r.key.run

abbrev pub RunsAreKnown : Contracts → Knowledge → Type 0
RunsAreKnown t k = Each (IsKnownIn t) k.runs

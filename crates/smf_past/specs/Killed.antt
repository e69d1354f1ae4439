-- What a process leaves that was killed, and what the next one finds.
use Rattle.std.specs.Prelude.{◌≡◌, ◌⊎◌, ℕ, List, [], ◌∷◌, map, true}
use Rattle.std.specs.List.{AllByRecursion}
use Rattle.smf_contract.specs.declared.found.Found.{Found}
use Rattle.smf_contract.specs.Entries.{Contracts, has_members}
use Rattle.smf_contract.specs.Laws.{Ascends}
use Rattle.smf_model.specs.Contents.{Holdings}
use Rattle.smf_world.specs.declared.event.Event.{Event}
use Rattle.smf_world.specs.declared.event.Event.TheVariants as events
use Rattle.smf_world.specs.declared.event.ProcessEvent.{ProcessEvent}
use Rattle.smf_world.specs.Happens.{happens}
use Rattle.smf_world.specs.Runs.{run}
use Rattle.smf_world.specs.World.{World}
use Rattle.smf_past.specs.Lived.{left_of}
use Rattle.smf_past.specs.Losses.{IsAmong, IsStillThere}

-- ---- when it was killed

-- the process was killed between two events, or when an event was under way: what cannot be undone of it was done, or
-- was not
abbrev pub IsKilledIn : World → World → Type 0
IsKilledIn w u = (u ≡ w) ⊎ ((e : Event) × (u ≡ happens w e))

-- what happened to processes, of which nobody was told
pub record Untold : Type 0 where
  pub process : ℕ
  pub what : ProcessEvent

abbrev pub untold : List Untold → List Event
untold us = map (λ (u : Untold). events.Process u.process u.what) us

-- the value that is stored, and the contracts that are there, after a process was killed in a world
pub record HasLeft (w : World) (h : Holdings) (t : Contracts) : Type 0 where
  pub moment : World
  pub killed : IsKilledIn w moment
  pub since : List Untold
  pub stored : h ≡ moment.now
  pub contracts : IsStillThere t (run (untold since) moment).table

-- what a process that was killed made of the world, with what is left of the contracts
abbrev pub last_world : (w : World) (h : Holdings) (t : Contracts) → HasLeft w h t → World
last_world w h t l = left_of (run (untold l.since) l.moment) t

-- ---- what is found

-- a contract with this number and this cookie is found
abbrev pub IsFound : ℕ → ℕ → List Found → Type 0
IsFound id cookie [] = ⊥
IsFound id cookie (f ∷ fs) = ((f.id ≡ id) × (f.cookie ≡ cookie)) ⊎ IsFound id cookie fs

abbrev pub IsOf : Contracts → Found → Type 0
IsOf t f = IsAmong f.id f.cookie t.contracts × (f.terms.inherit ≡ true)

-- what is found are contracts of the table, in the order of their numbers, and among them each that has members
pub record AreFoundOf (last : ℕ) (fs : List Found) (t : Contracts) : Type 0 where
  pub ascend : Ascends 0 (map (λ (f : Found). f.id) fs) last
  pub known : AllByRecursion (IsOf t) fs
  pub whole : AllByRecursion (λ c. has_members c.id t.members ≡ true → IsFound c.id c.cookie fs) t.contracts

-- What a server knows after it began, and after it started a contract.
use Rattle.std.specs.Prelude.{◌≡◌, ◌⊎◌, ◌≤◌, ℕ, List, map, Bool, true, false, Option, option_map, string_bytes}
use Rattle.std.specs.List.{list_any}
use Rattle.smf_room.specs.declared.life.Found.{Found}
use Rattle.smf_room.specs.declared.note.Note.{Note}
use Rattle.smf_room.specs.declared.start.Numbers.{Numbers}
use Rattle.smf_room.specs.Helds.{Held}
use Rattle.smf_room.specs.Lives.{Life, is_of, may_be}

-- a contract that was found may be of this instance: its note says so, or was not read
abbrev pub may_run_as : List ℕ → Found → Bool
may_run_as instance f = is_of instance (option_map (λ n. string_bytes n.instance) f.note)

-- the room was listed, and no contract of the instance may run
pub record MayStart (instance : List ℕ) (l : Life) : Type 0 where
  pub listed : l.listed ≡ true
  pub settled : list_any (may_be instance) l.unsettled ≡ false

-- the numbers that a server holds are those that it took and has not given; or it holds none
abbrev pub AreLeft : Numbers → Life → Type 0
AreLeft ns l = (ns.high ≤ ns.low) ⊎ ((ns.low ≡ l.low) × (ns.high ≡ l.high))

-- ---- what a LiveRoom keeps of contracts that were found

abbrev pub instance_of : Option Note → Option (List ℕ)
instance_of note = option_map (λ n. string_bytes n.instance) note

abbrev pub held_of : Found → Held
held_of f = record { known = record { id = f.id; instance = instance_of f.note }; failed = false }

abbrev pub held_of_all : List Found → List Held
held_of_all fs = map held_of fs

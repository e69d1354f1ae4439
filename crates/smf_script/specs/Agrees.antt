-- Agreement of the ledger of children and the node's world.
use Rattle.std.specs.Prelude.{◌≡◌, ◌≤◌, ◌==◌, ◌+◌, ℕ, List, [], ◌∷◌, ◌++◌, length, map, flat_map, reverse, Bool, true, false, None, Result, Ok}
use Rattle.smf_contract.specs.declared.contract.Contract.{Contract}
use Rattle.smf_contract.specs.declared.contract.Holder.TheVariants.{Inherited}
use Rattle.smf_contract.specs.declared.cookie.CookieFault.{CookieFault}
use Rattle.smf_contract.specs.declared.event.ContractEvent.{ContractEvent}
use Rattle.smf_contract.specs.declared.event.EventKind.{EventKind}
use Rattle.smf_contract.specs.declared.event.EventKind.TheVariants as kinds
use Rattle.smf_contract.specs.declared.event.Exit.TheVariants.{Killed}
use Rattle.smf_contract.specs.declared.terms.Terms.{Terms}
use Rattle.smf_contract.specs.Cookies.{bits_of_cookie}
use Rattle.smf_contract.specs.Entries.{Contracts, empty, home}
use Rattle.smf_contract.specs.Laws.{IsOrdered}
use Rattle.smf_method.specs.declared.command.CommandText.{CommandText}
use Rattle.smf_edge.specs.declared.note.Note.{Note}
use Rattle.smf_edge.specs.declared.note.Note.TheVariants as notes
use Rattle.smf_edge.specs.declared.note.Run.{Run}
use Rattle.smf_edge.specs.Ledgers.{Ledger, record_of}
use Rattle.smf_world.specs.declared.item.Item.{Item}
use Rattle.smf_world.specs.declared.item.Item.TheVariants.{Spawned}
use Rattle.smf_world.specs.World.{World}

-- ---- runs

-- a run, as children and the trail both show it
pub record Start : Type 0 where
  pub contract : ℕ
  pub cookie : Result ℕ CookieFault
  pub command : CommandText

abbrev pub start_if : Bool → Start → List Start
start_if true s = []
start_if false s = s ∷ []

-- a built-in has no contract, and is no run
abbrev pub starts_of : Item → List Start
starts_of (Spawned c n run method revision command) =
    start_if (c == 0)
    (record {
      contract = c;
      cookie = bits_of_cookie (record { instance = n; run = run; method = method });
      command = command;
    })
starts_of _ = []

abbrev pub start_by : Run → Start
start_by run = record { contract = run.contract; cookie = Ok run.cookie; command = run.command }

-- ---- contracts

abbrev pub contract_without_holder : Contract → Contract
contract_without_holder c = record c { holder = Inherited; acknowledged = 0 }

-- two tables are the same, but for who holds their contracts and what he acknowledged
pub record AreAlike (t u : Contracts) : Type 0 where
  pub contracts : map contract_without_holder t.contracts ≡ map contract_without_holder u.contracts
  pub members : t.members ≡ u.members
  pub events : t.events ≡ u.events
  pub last_contract : t.last_contract ≡ u.last_contract
  pub last_process : t.last_process ≡ u.last_process

-- the number, cookie and terms that a contract has of the run that made it
pub record Bond : Type 0 where
  pub contract : ℕ
  pub cookie : ℕ
  pub terms : Terms

abbrev pub bond_of : Contract → Bond
bond_of c = record { contract = c.id; cookie = c.cookie; terms = c.terms }

abbrev pub bond_by : Run → Bond
bond_by run = record { contract = run.contract; cookie = run.cookie; terms = run.terms }

-- the contracts that were found, and the runs that were made, end with the contracts of the table, in order; those before
-- them were there before a boot
abbrev pub AreMade : List Contract → List Run → List Contract → Type 0
AreMade found runs cs = (earlier : List Bond) × (map bond_of found ++ map bond_by runs ≡ earlier ++ map bond_of cs)

-- ---- processes

-- a process of a contract that came or went
pub record Passage : Type 0 where
  pub contract : ℕ
  pub kind : EventKind

abbrev pub passages_by : ℕ → EventKind → List Passage
passages_by id (kinds.Fork p) = record { contract = id; kind = kinds.Fork p } ∷ []
passages_by id (kinds.Exit p exit) = record { contract = id; kind = kinds.Exit p exit } ∷ []
passages_by id kinds.Empty = []
passages_by id (kinds.Core p) = []
passages_by id (kinds.Signal p) = []
passages_by id (kinds.Hwerr p) = []

abbrev pub passages_in : ContractEvent → List Passage
passages_in e = passages_by e.contract e.kind

abbrev pub ended_in : ℕ → ℕ → Passage
ended_in id p = record { contract = id; kind = kinds.Exit p Killed }

-- the passages of a note, also the ends of a kill
abbrev pub passages_of : Note → List Passage
passages_of (notes.Made run) = []
passages_of (notes.Found e) = passages_in e
passages_of (notes.Killed kill) = map (ended_in kill.contract) kill.ends

-- the forks and ends that were found, and those that children noted, end with those of the table's events; earlier ones
-- are of a table before a boot
abbrev pub IsNoted : List ContractEvent → List Note → List ContractEvent → Type 0
IsNoted found ns es =
    (earlier : List Passage)
    × (flat_map passages_in found ++ flat_map passages_of ns ≡ earlier ++ flat_map passages_in es)

-- it says nothing, or of a process that has ended
abbrev pub IsPast : Contracts → EventKind → Type 0
IsPast t kinds.Empty = Unit {0}
IsPast t (kinds.Exit p exit) = (p ≤ t.last_process) × (home t.members p ≡ None)
IsPast t _ = ⊥

abbrev pub ArePast : Contracts → List ContractEvent → Type 0
ArePast t [] = Unit {0}
ArePast t (e ∷ es) = IsPast t e.kind × ArePast t es

-- ---- a node and its children

-- What was there before a trail and notes begin: the runs that children noted and the trail shows no more, and the
-- contracts that were found.
pub record Before : Type 0 where
  pub starts : List Start
  pub table : Contracts

abbrev pub nothing_before : Before
nothing_before = record { starts = []; table = empty }

-- The runs that were made are those of the trail, in order, after those that it shows no more. The contracts are those
-- that were found, and those of the runs. Processes have the numbers after those that were found, by the runs and forks.
-- Both sides have the same contracts, members and events. The forks and ends that were found and that children noted,
-- kills among them, are those of the events, in order. An event that is given later brings nothing more.
pub record AgreesSince (b : Before) (w : World) (l : Ledger) : Type 0 where
  pub starts : b.starts ++ flat_map starts_of (reverse w.trail) ≡ map start_by (record_of l.notes).runs
  pub made : AreMade b.table.contracts (record_of l.notes).runs w.table.contracts
  pub counted : w.table.last_process
      ≡ b.table.last_process + (length (record_of l.notes).runs + length (record_of l.notes).forks)
  pub alike : AreAlike w.table l.table
  pub noted : IsNoted b.table.events l.notes w.table.events
  pub past : ArePast l.table l.due
  pub ordered : IsOrdered l.table

-- there was nothing before
abbrev pub Agrees : World → Ledger → Type 0
Agrees w l = AgreesSince nothing_before w l

-- ---- beginnings

-- contracts were there, and nothing was told yet
abbrev pub before_over : Contracts → Before
before_over t = record { starts = []; table = t }

-- the trail is forgotten, and the notes stay
abbrev pub before_trail : Before → World → Before
before_trail b w = record b { starts = b.starts ++ flat_map starts_of (reverse w.trail) }

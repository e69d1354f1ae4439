-- Each contract with members has one process, in the order of their starts.
use Rattle.std.specs.Prelude.{◌≡◌, ℕ, List, [], ◌∷◌, map}
use Rattle.smf_contract.specs.Laws.{Ascends}
use Rattle.smf_edge.specs.declared.deed.MemberEvent.{MemberEvent}
use Rattle.smf_edge.specs.declared.deed.Happening.{Happening}
use Rattle.smf_edge.specs.declared.deed.Happening.TheVariants.{Fork, Exit, Fail}
use Rattle.smf_edge.specs.Ledgers.{Ledger}
use Rattle.smf_edge.specs.Sound.{IsSound}

abbrev pub IsExit : Happening → Type 0
IsExit (Exit exit) = Unit {0}
IsExit Fork = ⊥
IsExit (Fail failure) = ⊥

abbrev pub AreExits : List MemberEvent → Type 0
AreExits [] = Unit {0}
AreExits (d ∷ ds) = IsExit d.happening × AreExits ds

-- the contracts of the processes are those of the members, each of them once, and only exits are pending
pub record IsManned (l : Ledger) (contracts : List ℕ) : Type 0 where
  pub same : contracts ≡ map (λ m. m.contract) l.table.members
  pub once : Ascends 0 contracts l.table.last_contract
  pub exits : AreExits l.pending

pub record IsKept (l : Ledger) (contracts : List ℕ) : Type 0 where
  pub sound : IsSound l
  pub manned : IsManned l contracts

-- Each contract with members stands with the system, and has as many members as was told.
use Rattle.std.specs.Prelude.{◌≡◌, ℕ, List, [], length, Option}
use Rattle.smf_contract.specs.Entries.{processes}
use Rattle.smf_contract.specs.Laws.{Ascends}
use Rattle.smf_edge.specs.Ledgers.{Ledger}
use Rattle.smf_edge.specs.Sound.{IsSound}
use Rattle.smf_edge.specs.declared.kid.Kid.{Kid}
use Rattle.smf_edge.specs.Phases.{Post, ids_of, size_of}

-- each contract stands once, with its members; nothing is pending
pub record IsFollowed (l : Ledger) (ps : List Post) : Type 0 where
  pub counts : (id : ℕ) → length (processes id l.table.members) ≡ size_of id ps
  pub once : Ascends 0 (ids_of ps) l.table.last_contract
  pub pending : l.pending ≡ []

pub record IsKept (l : Ledger) (ps : List Post) : Type 0 where
  pub sound : IsSound l
  pub followed : IsFollowed l ps

-- the children of a program whose contracts the system keeps: what was told of them, how many faults there were, the
-- contracts, and how many were made
pub record Following (H : Type 0) : Type 0 where
  pub ledger : Ledger
  pub faults : ℕ
  pub kids : List (Kid H)
  pub made : Option ℕ

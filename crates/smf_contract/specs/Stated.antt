-- The terms of a contract, as they are stated, and the sets that hold events alone.
use Rattle.std.specs.Prelude.{◌≤◌, Bool}
use Rattle.smf_contract.specs.declared.terms.EventSet.{EventSet}

-- the kinds that are told, those that have to be acknowledged, and the failures that end all members. With `inherit`
-- the contract waits to be adopted; with `noorphan` its members end if it is abandoned
pub record StatedTerms : Type 0 where
  pub informative : EventSet
  pub critical : EventSet
  pub fatal : EventSet
  pub inherit : Bool
  pub noorphan : Bool

-- 63 is the set of all six kinds
abbrev pub AreEvents : EventSet → Type 0
AreEvents set = set.0 ≤ 63

-- What remains of a machine that forgets its past.
use Rattle.std.specs.Prelude.{◌≡◌}
use Rattle.smf_contract.specs.Thinned.{thinned}
use Rattle.smf_world.specs.World.{World}
use Rattle.smf_machine.specs.declared.parts.Remains.{Remains}

-- what is held, and the contracts that have members
pub record AreRemainsOf (w : World) (r : Remains) : Type 0 where
  pub first : r.first ≡ w.now
  pub table : r.table.table ≡ thinned w.table

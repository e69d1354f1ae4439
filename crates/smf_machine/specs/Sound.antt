-- The laws of every machine's world.
use Rattle.smf_world.specs.Formed.{IsFormed}
use Rattle.smf_past.specs.Begun.{IsBegun}
use Rattle.smf_world.specs.Spelled.{AreSpelled}
use Rattle.smf_world.specs.World.{World}

-- events after an accepted boot make it. Groups that are held are such as a body may hold. Each message that was sent
-- is read again from its line
pub record IsSound (w : World) : Type 0 where
  pub reached : IsBegun w
  pub formed : IsFormed w.now
  pub spelled : AreSpelled w

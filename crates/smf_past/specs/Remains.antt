-- What remains of a world that forgets its past, and what is over.
use Rattle.std.specs.Prelude.{map}
use Rattle.smf_contract.specs.Thinned.{thinned}
use Rattle.smf_restarter.specs.Forgotten.{without_past_runs}
use Rattle.smf_world.specs.World.{World}
use Rattle.smf_past.specs.Forgotten.{forgotten}

-- the world as if it began now, without the contracts that have no members, and without the runs that are over
abbrev pub remains : World → World
remains w = record (forgotten w) { restarters = map without_past_runs w.restarters; table = thinned w.table }

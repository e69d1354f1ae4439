use Rattle.std.proofs.Common.{drop}
use Rattle.smf_dep.specs.Index.{AreMissed, is_naming_at}
use Rattle.smf_dep.proofs.NamingPlaces.{Seeks}
use Rattle.smf_dep.proofs.index.Citers.put_naming_all.Given as goal

abbrev pub invariant-loop-one : goal.invariant-loop-one
invariant-loop-one l =
    Seeks (AreMissed l.self) (is_naming_at l.arrivals l.members) (drop l.one-index l.arrivals) l.arrivals l.fn.found
    l.found

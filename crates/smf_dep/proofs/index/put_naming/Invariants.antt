use Rattle.std.proofs.Common.{drop}
use Rattle.smf_links.specs.Blockage.{IsOut}
use Rattle.smf_dep.specs.Index.{is_naming_at}
use Rattle.smf_dep.proofs.NamingPlaces.{Seeks}
use Rattle.smf_dep.proofs.index.put_naming.Given as goal

abbrev pub invariant-loop-place : goal.invariant-loop-place
invariant-loop-place l =
    Seeks IsOut (is_naming_at l.arrivals l.members) (drop l.place-index l.places) l.places l.fn.found l.found

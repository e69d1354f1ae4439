use Rattle.smf_dep.proofs.CiterPlaces.{HaveTaken}
use Rattle.smf_dep.proofs.index.Citers.place.Given as goal

abbrev pub invariant-loop-one : goal.invariant-loop-one
invariant-loop-one l = HaveTaken l.one-index l.placed l.fn.self l.self

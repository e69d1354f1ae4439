use Rattle.std.proofs.Common.{drop}
use Rattle.smf_dep.specs.Index.{is_for}
use Rattle.smf_dep.proofs.CiterPlaces.{Leads}
use Rattle.smf_dep.proofs.index.Citers.note_entities.Given as goal

abbrev pub invariant-loop-entity : goal.invariant-loop-entity
invariant-loop-entity l = Leads is_for l.place (drop l.entity-index l.entities) l.entities l.fn.self l.self

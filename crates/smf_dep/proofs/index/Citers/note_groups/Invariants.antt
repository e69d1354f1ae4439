use Rattle.std.proofs.Common.{drop}
use Rattle.smf_dep.specs.Index.{group_names}
use Rattle.smf_dep.proofs.CiterPlaces.{Leads}
use Rattle.smf_dep.proofs.index.Citers.note_groups.Given as goal

abbrev pub invariant-loop-dependency : goal.invariant-loop-dependency
invariant-loop-dependency l =
    Leads group_names l.place (drop l.dependency-index l.dependencies) l.dependencies l.fn.self l.self

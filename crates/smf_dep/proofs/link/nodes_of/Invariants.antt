use Rattle.std.proofs.Common.{◌≡◌, ◌++◌, map, drop}
use Rattle.std.specs.Vec.Iter.{into_iter_items}
use Rattle.smf_dep.specs.Places.{IsBeginning, all_links, links_among, node_of}
use Rattle.smf_dep.proofs.link.nodes_of.Given as goal

abbrev pub invariant-loop-member : goal.invariant-loop-member
invariant-loop-member l =
    record {
      rest : l.nodes ++ map (node_of l.members) (drop l.member-index l.members) ≡ map (node_of l.members) l.members;
      kept : IsBeginning (all_links (into_iter_items l.kept)) (links_among l.members (drop l.member-index l.members));
    }

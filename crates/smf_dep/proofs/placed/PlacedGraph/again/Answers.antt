use Rattle.std.proofs.Common.{◌≡◌, ◌∙◌, List, ap, map, subst, sym}
use Rattle.std.specs.List.{AllZip}
use Rattle.smf_fmri.specs.ByKey.{Rises}
use Rattle.smf_dep.specs.declared.member.GraphMember.{GraphMember}
use Rattle.smf_dep.specs.Members.{IsOfItem, by_member, wires}
use Rattle.smf_dep.specs.Places.{IsBeginning, all_links, links_among, nodes_of}
use Rattle.smf_dep.proofs.Alike.{all_alike, edges_kept, links_kept}
use Rattle.smf_dep.proofs.OfItems.{rises_of}
use Rattle.smf_dep.proofs.placed.PlacedGraph.again.Goals as goal

pub nodes_of-requires : goal.nodes_of-requires
nodes_of-requires c =
    let was = c.self.inside in
    let alike : map wires c.in_ok-all.all ≡ map wires was.members.items =
    ap (map wires) c.in_ok-all.ensures
    ∙ all_alike c.args.items.now was.members.items
    (subst (AllZip IsOfItem c.args.items.now) (sym c.self.view_is) c.requires.alike) in
    subst (λ ms. IsBeginning (all_links c.from_vec-2.result) (links_among ms ms)) (sym c.as_slice.ensures)
    (links_kept c.in_ok-all.all was.members.items c.from_vec-2.result
    (c.from_vec-2.ensures ∙ c.into_nodes.ensures ∙ c.self.invariant.0.linked) alike)

pub of_nodes-requires-clause-edges : goal.of_nodes-requires-clause-edges
of_nodes-requires-clause-edges c =
    let was = c.self.inside in
    let alike : map wires c.in_ok-all.all ≡ map wires was.members.items =
    ap (map wires) c.in_ok-all.ensures
    ∙ all_alike c.args.items.now was.members.items
    (subst (AllZip IsOfItem c.args.items.now) (sym c.self.view_is) c.requires.alike) in
    edges_kept c.in_ok-all.all was.members.items was.kept c.in_ok-nodes.nodes was.cycles.edges.items
    c.self.invariant.0.linked (c.in_ok-nodes.ensures ∙ ap nodes_of c.as_slice.ensures) alike c.self.invariant.0.edged

pub of_nodes-requires-clause-rises : goal.of_nodes-requires-clause-rises
of_nodes-requires-clause-rises c =
    let P : List GraphMember → Type 0 = Rises by_member in
    subst P (sym (c.into_vec.ensures ∙ c.in_ok-all.ensures)) (rises_of c.args.items.now c.requires.rises)

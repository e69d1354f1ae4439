use Rattle.std.proofs.Common.{◌∙◌, arith, subst, sym}
use Rattle.std.specs.Vec.{vec_capacity}
use Rattle.smf_links.specs.Stamps.{IsLast}
use Rattle.smf_links.proofs.Departures.{left_is}
use Rattle.smf_links.proofs.kept.KeptVerdicts.pop.Goals as goal

pub remove_node-requires : goal.remove_node-requires
remove_node-requires c = subst IsLast (sym c.self.view_is) c.requires

pub invariant_of-self : goal.invariant_of-self
invariant_of-self c = (
  c.remove_node.ensures.kept c.self.inside.next (vec_capacity c.self.inside.work) c.self.invariant.0,
  c.self.invariant.1,
  c.remove_node.ensures.tallied c.self.invariant.2,
  (let le = c.remove_node.ensures.total in let count = c.self.invariant.3 in omega arith),
)

pub returns : goal.returns
returns c = λ others last e.
    left_is c.self.inside.nodes.items c.remove_node.new.nodes.items others last (c.self.view_is ∙ e)
    c.remove_node.ensures.nodes

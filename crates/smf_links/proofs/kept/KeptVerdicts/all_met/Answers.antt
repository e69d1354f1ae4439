use Rattle.std.proofs.Common.{ℕ, ◌∙◌, List, ap, Bool}
use Rattle.std.specs.List.{list_all}
use Rattle.smf_links.specs.declared.link.GraphNode.{GraphNode}
use Rattle.smf_links.specs.Blockage.{met_at, node_is, met_by, runs_at, off_at}
use Rattle.smf_links.specs.Stamps.{before}
use Rattle.smf_links.proofs.Least.{limit_least}
use Rattle.smf_links.proofs.kept.KeptVerdicts.all_met.Goals as goal

pub returns : goal.returns
returns c =
    c.all_met_at.ensures
    ∙ (λ i. node_is
    (λ (n : GraphNode). list_all
    (met_by (runs_at (c.as_slice.ensures.value i)) (off_at (c.as_slice.ensures.value i))
    (before (c.as_slice-2.ensures.value i) c.self.inside.next)) n.links) (c.as_slice.ensures.value i) c.args.place)
    ∙ ap (λ (P : ℕ → Bool). node_is
    (λ (n : GraphNode). list_all (met_by (runs_at c.self.inside.nodes.items) (off_at c.self.inside.nodes.items) P)
    n.links) c.self.inside.nodes.items c.args.place)
    (limit_least c.self.inside.nodes.items c.self.inside.stamps.items c.self.inside.next c.self.invariant.0.low
    c.self.invariant.0.sound c.self.invariant.0.complete)
    ∙ ap (λ (ns : List GraphNode). met_at ns c.args.place) c.self.view_is

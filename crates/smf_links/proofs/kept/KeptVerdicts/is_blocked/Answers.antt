use Rattle.std.proofs.Common.{ℕ, ◌∙◌, List, ap, Bool}
use Rattle.smf_links.specs.declared.link.GraphNode.{GraphNode}
use Rattle.smf_links.specs.Blockage.{is_parked, blocked_by, off_at, runs_at}
use Rattle.smf_links.specs.Stamps.{before}
use Rattle.smf_links.proofs.Least.{limit_least}
use Rattle.smf_links.proofs.kept.KeptVerdicts.is_blocked.Goals as goal

pub returns : goal.returns
returns c =
    c.is_blocked.ensures
    ∙ (λ i. blocked_by (runs_at (c.as_slice.ensures.value i)) (off_at (c.as_slice.ensures.value i))
    (before (c.as_slice-2.ensures.value i) c.self.inside.next) c.args.link.now)
    ∙ ap (λ (P : ℕ → Bool). blocked_by (runs_at c.self.inside.nodes.items)
    (off_at c.self.inside.nodes.items) P c.args.link.now)
    (limit_least c.self.inside.nodes.items c.self.inside.stamps.items c.self.inside.next c.self.invariant.0.low
    c.self.invariant.0.sound c.self.invariant.0.complete)
    ∙ ap (λ (ns : List GraphNode). blocked_by (runs_at ns) (off_at ns) (is_parked ns) c.args.link.now) c.self.view_is

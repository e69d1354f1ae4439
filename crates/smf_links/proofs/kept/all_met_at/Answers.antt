use Rattle.std.proofs.Common.{List, subst, sym}
use Rattle.smf_links.specs.declared.link.Link.{Link}
use Rattle.smf_links.specs.declared.tally.Entity.{Entity}
use Rattle.smf_links.specs.Blockage.{off_at, runs_at}
use Rattle.smf_links.specs.Stamps.{before}
use Rattle.smf_links.specs.Wires.{AreTold, tallies_at}
use Rattle.smf_links.proofs.Counted.{found_at, told_before}
use Rattle.smf_links.proofs.kept.all_met_at.Goals as goal

pub each_met-requires : goal.each_met-requires
each_met-requires c =
    let F : List (List Entity) → Type 0 =
    λ l. AreTold (runs_at c.args.nodes.now) (off_at c.args.nodes.now)
    (before c.args.stamps.now c.args.limit) l c.as_slice.result.now in
    let G : List Link → Type 0 =
    λ l. AreTold (runs_at c.args.nodes.now) (off_at c.args.nodes.now) (before c.args.stamps.now c.args.limit)
    (tallies_at c.args.tallies.now c.args.place) l in
    subst F (sym c.tallies_at-own.ensures)
    (subst G (sym c.as_slice.ensures)
    (told_before c.args.nodes.now c.args.stamps.now c.args.entries.now c.args.tallies.now c.args.limit c.args.place
    c.in-Some.node.now
    (found_at c.args.nodes.now c.args.place c.in-Some.node.now c.in-Some.ensures.lookup.3.0
    c.in-Some.ensures.lookup.1) c.requires.low c.requires.tallied))

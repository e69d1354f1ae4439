use Rattle.std.proofs.Common.{List, subst, sym}
use Rattle.smf_links.specs.declared.tally.Entity.{Entity}
use Rattle.smf_links.specs.Blockage.{off_at, runs_at}
use Rattle.smf_links.specs.Stamps.{has_stamp}
use Rattle.smf_links.specs.Wires.{AreTold}
use Rattle.smf_links.proofs.Counted.{found_at}
use Rattle.smf_links.proofs.TallyUpdates.{told}
use Rattle.smf_links.proofs.blockage.parks.Goals as goal

pub parks_by-requires : goal.parks_by-requires
parks_by-requires c =
    let F : List (List Entity) → Type 0 =
    λ l. AreTold (runs_at c.args.nodes.now) (off_at c.args.nodes.now) (has_stamp c.args.stamps.now) l
    c.in-Some.node.now.links in
    subst F (sym c.tallies_at-own.ensures)
    (told c.args.nodes.now c.args.stamps.now c.args.entries.now c.args.tallies.now c.args.place c.in-Some.node.now
    (found_at c.args.nodes.now c.args.place c.in-Some.node.now c.in-Some.ensures.lookup.3.0
    c.in-Some.ensures.lookup.1) c.requires)

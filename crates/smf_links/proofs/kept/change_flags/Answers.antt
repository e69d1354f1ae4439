use Rattle.std.proofs.Common.{List, sym, subst, ◌∙◌}
use Rattle.smf_links.specs.declared.link.GraphNode.{GraphNode}
use Rattle.smf_links.specs.Wires.{IsTalliedBut, spots_at}
use Rattle.smf_links.proofs.TallyUpdates.{flags_done, flags_tallied}
use Rattle.smf_links.proofs.kept.change_flags.Goals as goal

pub retally-requires : goal.retally-requires
retally-requires c =
    let F : List GraphNode → Type 0 =
    λ l. IsTalliedBut l c.args.stamps.now (spots_at c.args.entries.now c.args.place) c.args.tallies.now in
    subst F (sym (c.as_slice.ensures.value ∙ c.set_flags.ensures))
    (flags_tallied c.args.nodes.now.items c.args.stamps.now c.args.entries.now c.args.tallies.now c.args.place
    c.args.flags c.requires.within c.requires.tallied)

pub returns-clause-tallied : goal.returns-clause-tallied
returns-clause-tallied c =
    flags_done c.args.nodes.now.items c.as_slice.result.now c.set_flags.new.nodes.items c.args.stamps.now
    c.args.entries.now c.args.tallies.now c.retally.new.tallies c.args.place c.args.flags
    c.as_slice.ensures.value c.set_flags.ensures c.requires.tallied c.retally.ensures

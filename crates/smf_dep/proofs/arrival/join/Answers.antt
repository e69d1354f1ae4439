use Rattle.std.proofs.Common.{ap, subst, sym, ◌∙◌}
use Rattle.smf_links.specs.declared.link.GraphNode.{GraphNode}
use Rattle.smf_links.specs.Stamps.{AreFree}
use Rattle.smf_dep.specs.Updates.{blank_of}
use Rattle.smf_dep.proofs.Joined.{free_after}
use Rattle.smf_dep.proofs.arrival.join.Goals as goal

pub push-requires : goal.push-requires
push-requires c =
    let P : GraphNode → Type 0 = AreFree c.args.kept.now in
    record {
      free = subst P (sym (c.blank_of-node.ensures ∙ ap blank_of c.member-2.ensures))
          (free_after c.args.members.now.items c.requires.0 c.args.kept.now c.args.member c.requires.1);
    }

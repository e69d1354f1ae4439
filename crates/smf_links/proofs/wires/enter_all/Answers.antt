use Rattle.std.proofs.Common.{◌∙◌, List, subst}
use Rattle.smf_links.specs.declared.link.Link.{Link}
use Rattle.smf_links.specs.Wires.{EntersLinks}
use Rattle.smf_links.proofs.Spots.{nodes_entered, nodes_more}
use Rattle.smf_links.proofs.wires.enter_all.Goals as goal

pub loop-at-preserved : goal.loop-at-preserved
loop-at-preserved c =
    let P : List Link → Type 0 = EntersLinks c.enter_links.new.entries.items c.loop-at.at in
    record {
      size = c.in_ok-enter_links.ensures.keeps.size ∙ c.loop-at.invariant.size;
      enters = nodes_more c.loop-at.entries.items c.enter_links.new.entries.items
          c.args.nodes.now c.loop-at.at c.index-nodes-at.result c.index-nodes-at.is
          c.in_ok-enter_links.ensures.keeps (subst P c.as_slice.ensures c.in_ok-enter_links.ensures.enters)
          c.loop-at.invariant.enters;
    }

pub returns : goal.returns
returns c =
    nodes_entered c.loop-at.entries.items c.args.nodes.now c.loop-at.at c.loop-at.invariant.size
    c.loop-at-test.false c.loop-at.invariant.enters

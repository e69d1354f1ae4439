use Rattle.std.proofs.Common.{◌∙◌, arith}
use Rattle.smf_links.proofs.Relinks.{relink_done, relink_tallied}
use Rattle.smf_links.proofs.rewire.change_node.Goals as goal

pub put_tallies-requires : goal.put_tallies-requires
put_tallies-requires c =
    let count = c.requires.tallied.tallied.count in let within = c.requires.within in omega arith

pub retally-requires : goal.retally-requires
retally-requires c =
    relink_tallied c.args.nodes.now.items c.as_slice.result.now c.args.stamps.now c.args.entries.now
    c.args.tallies.now c.put_tallies.new.tallies c.args.place c.args.node c.args.own c.requires.within
    (c.as_slice.ensures.value ∙ c.put_node.ensures) c.put_tallies.ensures c.requires.own c.requires.enters
    c.requires.tallied

pub returns-clause-tallied : goal.returns-clause-tallied
returns-clause-tallied c =
    relink_done c.args.nodes.now.items c.as_slice.result.now c.put_node.new.nodes.items c.args.stamps.now
    c.args.entries.now c.args.tallies.now c.retally.new.tallies c.args.place c.args.node c.requires.within
    c.as_slice.ensures.value c.put_node.ensures c.requires.enters c.requires.tallied c.retally.ensures

use Rattle.std.proofs.Common.{sym}
use Rattle.smf_dep.proofs.Linked.{links_known}
use Rattle.smf_dep.proofs.relink.known_node.Goals as goal

pub returns-in_ok-copy_of_node-in-Some : goal.returns-in_ok-copy_of_node-in-Some
returns-in_ok-copy_of_node-in-Some c =
    links_known c.args.members.now c.args.arrivals.now c.args.count c.args.kept.now c.args.one.now c.in-Some.node.now
    c.in_ok-copy_of_node-in-Some.field-0 c.requires (c.is_known.ensures c.if-not-is_known.false)
    (sym c.in-Some.ensures) c.in_ok-copy_of_node-in-Some.ensures

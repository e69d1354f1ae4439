use Rattle.smf_node.proofs.EventMarks.{no_reply, the_reply}
use Rattle.smf_node.proofs.node.Node.edit.Goals as goal

pub unreachable-requires : goal.unreachable-requires
unreachable-requires g c = no_reply _ _ _ _ c.in_ok-replies.ensures.reply c.first.ensures c.in-None.is

pub returns-clause-reply : goal.returns-clause-reply
returns-clause-reply g c = the_reply _ _ _ _ _ c.in_ok-replies.ensures.reply c.first.ensures c.in-Some.is

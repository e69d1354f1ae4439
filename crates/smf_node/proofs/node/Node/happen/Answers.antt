use Rattle.smf_node.proofs.FaultExits.{passed_on}
use Rattle.smf_node.proofs.EventMarks.{lacks, marked_on, replied}
use Rattle.smf_node.proofs.node.Node.happen.Goals as goal

pub returns-in_err-replies-clause-fault : goal.returns-in_err-replies-clause-fault
returns-in_err-replies-clause-fault g c =
    passed_on _ _ _ c.from_residual-in_err-replies.ensures.1
    (lacks g.J.Journal.write_fails _ _ _ _ _ c.self.view_is c.in_err-replies.ensures.fault)

pub returns-clause-ok : goal.returns-clause-ok
returns-clause-ok g c =
    marked_on _ _ _ _ _ _ _
    _ _ _ c.self.view_is (c.reserve.ensures.kept _) c.in_ok-replies.ensures.ok.made
    c.is_heard_in-is_heard.ensures c.revision-before.ensures c.revision-after.ensures (c.mark.ensures _)

pub returns-clause-reply : goal.returns-clause-reply
returns-clause-reply g c = replied _ _ _ _ _ c.self.view_is c.in_ok-replies.ensures.ok.said

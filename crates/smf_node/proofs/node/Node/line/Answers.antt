use Rattle.smf_node.proofs.Lines.{read_where}
use Rattle.smf_node.proofs.node.Node.line.Goals as goal

pub returns-clause-again : goal.returns-clause-again
returns-clause-again g c =
    read_where c.args.self.now.world c.args.place _ c.trail-spelled.ensures.spelled c.line_at.ensures.again

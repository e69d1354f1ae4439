use Rattle.smf_node.proofs.Edits.{edit_exact}
use Rattle.smf_node.proofs.node.Node.give.Goals as goal

pub returns-in-Ok-clause-exact : goal.returns-in-Ok-clause-exact
returns-in-Ok-clause-exact g c = edit_exact _ _ _ _ c.in-Ok.ensures.ok c.in-Ok.ensures.reply

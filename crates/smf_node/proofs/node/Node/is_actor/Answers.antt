use Rattle.smf_node.proofs.EventMarks.{actor_is}
use Rattle.smf_node.proofs.node.Node.is_actor.Goals as goal

pub returns : goal.returns
returns g c = actor_is _ _ _ _ _ _ c.self.view_is c.restarters.ensures c.has_actor.ensures

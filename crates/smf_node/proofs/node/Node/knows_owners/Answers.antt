use Rattle.smf_node.proofs.Owners.{owners_launched}
use Rattle.smf_node.proofs.node.Node.knows_owners.Goals as goal

pub returns-in-Some : goal.returns-in-Some
returns-in-Some g c =
    owners_launched _ _ _ c.in-Some.names.now _ c.self.view_is c.in-Some.ensures c.are_launched.ensures

use Rattle.smf_machine.proofs.Linked.{linked_heard}
use Rattle.smf_machine.proofs.ProcessEvents.{parts_ordered}
use Rattle.smf_machine.proofs.parts.System.hear.Goals as goal

pub hear-requires : goal.hear-requires
hear-requires g c = parts_ordered _ _ _ c.self.view_is c.requires

pub invariant_of-self : goal.invariant_of-self
invariant_of-self g c =
    linked_heard c.self.inside.repository.held c.self.inside.repository.recent c.self.inside.parts c.hear.new.parts
    c.hear.result c.self.invariant
    (c.hear.ensures.heard c.self.inside.repository.held) (c.hear.ensures.err c.self.inside.repository.held)

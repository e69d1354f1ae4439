use Rattle.smf_machine.proofs.Linked.{linked_turned_if}
use Rattle.smf_machine.proofs.parts.System.kill_with.Goals as goal

pub invariant_of-self : goal.invariant_of-self
invariant_of-self g c =
    linked_turned_if c.self.inside.repository.held c.self.inside.repository.recent c.self.inside.parts
    c.kill_with.new.parts c.kill_with.result c.args.work c.self.invariant c.requires.command
    (c.kill_with.ensures.made c.self.inside.repository.held) (c.kill_with.ensures.err c.self.inside.repository.held)

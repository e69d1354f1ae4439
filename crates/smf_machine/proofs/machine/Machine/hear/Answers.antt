use Rattle.smf_machine.proofs.Turned.{sound_heard}
use Rattle.smf_machine.proofs.machine.Machine.hear.Goals as goal

pub hear-requires : goal.hear-requires
hear-requires g c = c.self.invariant.reached

pub invariant_of-self : goal.invariant_of-self
invariant_of-self g c =
    sound_heard c.self.inside.system c.hear.new.self c.hear.result c.self.invariant c.hear.ensures.heard
    c.hear.ensures.err

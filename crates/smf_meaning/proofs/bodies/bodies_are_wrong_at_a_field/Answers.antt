use Rattle.smf_meaning.proofs.WrongBodies.{body_fault, body_spelled}
use Rattle.smf_meaning.proofs.bodies.bodies_are_wrong_at_a_field.Goals as goal

pub returns-clause-spelled : goal.returns-clause-spelled
returns-clause-spelled c = body_spelled

pub returns-clause-wrong : goal.returns-clause-wrong
returns-clause-wrong c = body_fault

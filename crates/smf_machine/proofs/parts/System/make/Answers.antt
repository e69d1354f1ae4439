use Rattle.smf_machine.proofs.Boots.{installs_worked}
use Rattle.smf_machine.proofs.parts.System.make.Goals as goal

pub take-requires : goal.take-requires
take-requires g c = installs_worked _ _ _ c.requires.reached c.requires.none c.in_ok-work.ensures

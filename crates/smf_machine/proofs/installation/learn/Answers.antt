use Rattle.std.proofs.Common.{rules}
use Rattle.smf_machine.proofs.Known.{learned_there, none_learned}
use Rattle.smf_machine.proofs.installation.learn.Goals as goal

pub returns-in-Some : goal.returns-in-Some
returns-in-Some c =
    learned_there _ _ _ _ _ _ c.requires.apart (search rules) (search rules) c.index_mut.ensures.value c.change.ensures

pub returns-in_default : goal.returns-in_default
returns-in_default c = none_learned _ _ _ (search rules)

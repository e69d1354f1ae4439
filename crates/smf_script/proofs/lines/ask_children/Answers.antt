use Rattle.smf_script.proofs.Effects.{boot_done}
use Rattle.smf_script.proofs.lines.ask_children.Goals as goal

pub returns-in-Boot-clause-exact : goal.returns-in-Boot-clause-exact
returns-in-Boot-clause-exact g c =
    boot_done g.K.Kids.skills _ _ _ _ _ _ _ _ c.in-Boot.is c.boot.ensures.exact c.boot.ensures.taken

use Rattle.smf_script.proofs.Effects.{could_boot, kept_on}
use Rattle.smf_script.proofs.actions.boot.Goals as goal

pub returns-in-Ok-clause-taken : goal.returns-in-Ok-clause-taken
returns-in-Ok-clause-taken g c = could_boot _ _ c.restart.ensures.taken

pub returns-in-Err-clause-taken : goal.returns-in-Err-clause-taken
returns-in-Err-clause-taken g c = kept_on _ _ c.say_why.ensures.flag

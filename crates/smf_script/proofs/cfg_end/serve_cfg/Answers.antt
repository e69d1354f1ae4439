use Rattle.smf_script.proofs.CfgProgress.{ends_of_all}
use Rattle.smf_script.proofs.cfg_end.serve_cfg.Goals as goal

pub returns-in-Ok-clause-ok : goal.returns-in-Ok-clause-ok
returns-in-Ok-clause-ok g c = λ fine. ends_of_all _ _ _ _ _ _ _ _ c.in-Ok.ensures.ok

use Rattle.smf_script.proofs.Fronts.{blank_first, blank_second}
use Rattle.smf_script.proofs.request.behind_blank.Goals as goal

pub returns-in-Some : goal.returns-in-Some
returns-in-Some c = blank_first _ _ c.in-Some.ensures

pub returns-in-None : goal.returns-in-None
returns-in-None c = blank_second _ _ c.in-None.ensures c.strip-in-None.ensures

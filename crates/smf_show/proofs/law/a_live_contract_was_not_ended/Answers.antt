use Rattle.smf_show.proofs.Told.{contract_lives}
use Rattle.smf_show.proofs.law.a_live_contract_was_not_ended.Goals as goal

pub returns : goal.returns
returns c = contract_lives

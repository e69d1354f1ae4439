use Rattle.smf_show.proofs.Audited.{tells_live_start}
use Rattle.smf_show.proofs.law.a_live_contract_is_the_audits.Goals as goal

pub returns : goal.returns
returns c = tells_live_start

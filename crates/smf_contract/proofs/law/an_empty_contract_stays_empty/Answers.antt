use Rattle.smf_contract.proofs.After.{call_keeps}
use Rattle.smf_contract.proofs.law.an_empty_contract_stays_empty.Goals as goal

pub returns : goal.returns
returns c = λ t call. (call_keeps t call).stays_empty

use Rattle.smf_contract.proofs.Lost.{emptied_lost}
use Rattle.smf_contract.proofs.law.an_emptied_contract_had_members.Goals as goal

pub returns : goal.returns
returns c = λ t call id. emptied_lost t call id

use Rattle.std.proofs.Common.{[], ap, sym}
use Rattle.smf_contract.specs.Entries.{Contracts, empty}
use Rattle.smf_contract.proofs.After.{calls_order}
use Rattle.smf_contract.proofs.Begun.{all_held, all_holders, table_ordered}
use Rattle.smf_contract.proofs.law.found_contracts_stand_in_order.Goals as goal

pub returns-clause-ordered : goal.returns-clause-ordered
returns-clause-ordered c = λ who last fs up. table_ordered who empty fs last up (calls_order [])

pub returns-clause-held : goal.returns-clause-held
returns-clause-held c = λ who last fs. all_holders who empty fs tt

pub returns-clause-same : goal.returns-clause-same
returns-clause-same c =
    λ who other last fs. sym (ap (λ (t : Contracts). record t { last_contract = last }) (all_held who other empty fs))

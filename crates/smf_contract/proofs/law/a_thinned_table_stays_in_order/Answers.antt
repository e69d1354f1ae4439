use Rattle.smf_contract.proofs.ThinTables.{thinned_ordered}
use Rattle.smf_contract.proofs.law.a_thinned_table_stays_in_order.Goals as goal

pub returns : goal.returns
returns c = λ t o. thinned_ordered t o

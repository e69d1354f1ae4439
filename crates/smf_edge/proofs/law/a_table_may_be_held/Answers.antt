use Rattle.smf_edge.proofs.Beginnings.{held_all, held_ordered}
use Rattle.smf_edge.proofs.law.a_table_may_be_held.Goals as goal

pub returns-clause-ordered : goal.returns-clause-ordered
returns-clause-ordered c = held_ordered

pub returns-clause-held : goal.returns-clause-held
returns-clause-held c = held_all

use Rattle.smf_dep.proofs.LawCycles.{listed, found}
use Rattle.smf_dep.proofs.law.cycles_are_lists.Goals as goal

pub returns-clause-listed : goal.returns-clause-listed
returns-clause-listed c = listed

pub returns-clause-found : goal.returns-clause-found
returns-clause-found c = found

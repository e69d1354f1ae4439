use Rattle.smf_model.proofs.Names.{found_by_name, name_found}
use Rattle.smf_model.proofs.law.names_find_instances.Goals as goal

pub returns-clause-found : goal.returns-clause-found
returns-clause-found c = λ h n i numbered e. found_by_name h n i numbered.indexed e

pub returns-clause-only : goal.returns-clause-only
returns-clause-only c = λ h name i numbered e. name_found h name i numbered.indexed e

-- The variables of methods: four, each with a name of its own.
use Rattle.std.proofs.Common.{◌≢◌}
use Rattle.smf_edge.specs.declared.environment.Variable.{Variable}
use Rattle.smf_edge.specs.declared.environment.Variable.TheVariants.{Path, Fmri, Method, Restarter}
use Rattle.smf_edge.specs.Environment.{variable_name}

-- what holds of each of the four holds of all
pub each_variable : (P : Variable → Type 0) → P Path → P Fmri → P Method → P Restarter → (v : Variable) → P v
each_variable P path fmri method restarter Path = path
each_variable P path fmri method restarter Fmri = fmri
each_variable P path fmri method restarter Method = method
each_variable P path fmri method restarter Restarter = restarter

pub path_not_fmri : variable_name Path ≢ variable_name Fmri
path_not_fmri e = absurd cc

pub path_not_method : variable_name Path ≢ variable_name Method
path_not_method e = absurd cc

pub path_not_restarter : variable_name Path ≢ variable_name Restarter
path_not_restarter e = absurd cc

pub fmri_not_method : variable_name Fmri ≢ variable_name Method
fmri_not_method e = absurd cc

pub fmri_not_restarter : variable_name Fmri ≢ variable_name Restarter
fmri_not_restarter e = absurd cc

pub method_not_restarter : variable_name Method ≢ variable_name Restarter
method_not_restarter e = absurd cc

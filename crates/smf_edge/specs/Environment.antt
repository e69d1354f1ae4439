-- The environment of methods (smf_method(7)).
use Rattle.std.specs.Prelude.{ℕ, List, codes}
use Rattle.smf_method.specs.Tokens.{method_text}
use Rattle.smf_edge.specs.declared.environment.Variable.{Variable}
use Rattle.smf_edge.specs.declared.environment.Variable.TheVariants.{Path, Fmri, Method, Restarter}
use Rattle.smf_edge.specs.declared.start.Start.{Start}

abbrev pub variable_name : Variable → List ℕ
variable_name Path = codes "PATH"
variable_name Fmri = codes "SMF_FMRI"
variable_name Method = codes "SMF_METHOD"
variable_name Restarter = codes "SMF_RESTARTER"

-- the value that a variable has in a start
abbrev pub variable_value : Start → Variable → List ℕ
variable_value s Path = codes "/usr/sbin:/usr/bin:/sbin:/bin"
variable_value s Fmri = s.instance
variable_value s Method = method_text s.method
variable_value s Restarter = s.restarter

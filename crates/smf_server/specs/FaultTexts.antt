-- The text of a fault that a turn ended with, as a line of a reply.
use Rattle.std.specs.Prelude.{ℕ, List, [], ◌∷◌, ◌++◌}
use Rattle.smf_script.specs.declared.fault.ScriptFault.{ScriptFault}
use Rattle.smf_script.specs.FaultTexts.{fault_text}

abbrev pub fault_line : ScriptFault → List ℕ
fault_line fault = fault_text fault ++ 10 ∷ []

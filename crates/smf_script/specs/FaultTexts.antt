-- The text of a fault that ended a script.
use Rattle.std.specs.Prelude.{ℕ, List, codes}
use Rattle.smf_lines.specs.Told.{read_text}
use Rattle.smf_node.specs.declared.fault.NodeFault.{NodeFault}
use Rattle.smf_node.specs.declared.fault.NodeFault.TheVariants as nodes
use Rattle.smf_script.specs.declared.fault.ScriptFault.{ScriptFault}
use Rattle.smf_script.specs.declared.fault.ScriptFault.TheVariants as scripts

abbrev pub node_text : NodeFault → List ℕ
node_text nodes.Memory = codes "smf: no memory"
node_text nodes.Database = codes "smf: store: database failed"
node_text nodes.Limit = codes "smf: limit"
node_text nodes.NoSuchMessage = codes "smf: no such message"
node_text nodes.NoSuchActor = codes "smf: no such restarter"

abbrev pub fault_text : ScriptFault → List ℕ
fault_text (scripts.Node fault) = node_text fault
fault_text (scripts.Lines fault) = read_text fault
fault_text (scripts.Output fault) = codes "smf: output failed"

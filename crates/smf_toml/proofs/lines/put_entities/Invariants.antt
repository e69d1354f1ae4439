use Rattle.std.proofs.Common.{◌≡◌, ◌++◌, drop}
use Rattle.smf_toml.specs.Lines.{entities_of}
use Rattle.smf_toml.proofs.lines.put_entities.Given as goal

abbrev pub invariant-loop-name : goal.invariant-loop-name
invariant-loop-name l = l.out.items ++ entities_of (drop l.name-index l.names) ≡ l.fn.out.items ++ entities_of l.names

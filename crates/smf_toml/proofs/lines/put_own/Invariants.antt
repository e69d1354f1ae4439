use Rattle.std.proofs.Common.{◌≡◌, ◌++◌, drop}
use Rattle.smf_toml.specs.Lines.{own_lines}
use Rattle.smf_toml.proofs.lines.put_own.Given as goal

abbrev pub invariant-loop-group : goal.invariant-loop-group
invariant-loop-group l = l.out.items ++ own_lines (drop l.group-index l.groups) ≡ l.fn.out.items ++ own_lines l.groups

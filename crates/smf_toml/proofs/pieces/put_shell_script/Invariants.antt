use Rattle.std.proofs.Common.{◌≡◌, ◌++◌, drop}
use Rattle.smf_toml.specs.Pieces.{script_text}
use Rattle.smf_toml.proofs.pieces.put_shell_script.Given as goal

abbrev pub invariant-loop-b : goal.invariant-loop-b
invariant-loop-b l = l.out.items ++ script_text (drop l.b-index l.bytes) ≡ l.fn.out.items ++ script_text l.bytes

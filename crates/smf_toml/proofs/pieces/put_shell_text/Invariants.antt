use Rattle.std.proofs.Common.{◌≡◌, ◌++◌, drop}
use Rattle.smf_toml.specs.Pieces.{shell_text}
use Rattle.smf_toml.proofs.pieces.put_shell_text.Given as goal

abbrev pub invariant-loop-b : goal.invariant-loop-b
invariant-loop-b l = l.out.items ++ shell_text (drop l.b-index l.bytes) ≡ l.fn.out.items ++ shell_text l.bytes

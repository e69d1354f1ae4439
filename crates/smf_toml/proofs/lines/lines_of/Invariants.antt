use Rattle.std.proofs.Common.{◌≡◌, ◌++◌, drop}
use Rattle.std.specs.Option.{option_copied}
use Rattle.std.specs.Prelude.{None}
use Rattle.smf_toml.specs.Lines.{lines_after}
use Rattle.smf_toml.proofs.lines.lines_of.Given as goal

abbrev pub invariant-loop-entry : goal.invariant-loop-entry
invariant-loop-entry l =
    l.lines.items ++ lines_after (option_copied l.before) (drop l.entry-index l.entries) ≡ lines_after None l.entries

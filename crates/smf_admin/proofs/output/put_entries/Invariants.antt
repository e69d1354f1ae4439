use Rattle.std.proofs.Common.{◌≡◌, ◌++◌, drop, string_bytes}
use Rattle.std.specs.List.{flat_map}
use Rattle.smf_admin.specs.Output.{entry_text}
use Rattle.smf_admin.proofs.output.put_entries.Given as goal

abbrev pub invariant-loop-entry : goal.invariant-loop-entry
invariant-loop-entry l = string_bytes l.out ++ flat_map entry_text (drop l.entry-index l.entries)
    ≡ string_bytes l.fn.out ++ flat_map entry_text l.entries

use Rattle.std.proofs.Common.{◌≡◌, ◌++◌, take, drop}
use Rattle.std.specs.List.{AllByRecursion}
use Rattle.std.specs.Prelude.{string_bytes}
use Rattle.smf_wire.specs.Lines.{IsChanged, changed_text, each_behind}
use Rattle.smf_wire.proofs.encoder.put_all_changed.Given as goal

abbrev pub invariant-loop-changed : goal.invariant-loop-changed
invariant-loop-changed l = record {
  text : string_bytes l.out ++ each_behind changed_text (drop l.changed-index l.items)
      ≡ string_bytes l.fn.out ++ each_behind changed_text l.items;
  known : AllByRecursion IsChanged (take l.changed-index l.items);
}

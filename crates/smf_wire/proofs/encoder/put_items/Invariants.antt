use Rattle.std.proofs.Common.{◌≡◌, ◌++◌, take, drop}
use Rattle.std.specs.List.{AllByRecursion}
use Rattle.std.specs.Prelude.{string_bytes}
use Rattle.smf_wire.specs.Lines.{IsItem, each_behind, item_text}
use Rattle.smf_wire.proofs.encoder.put_items.Given as goal

abbrev pub invariant-loop-item : goal.invariant-loop-item
invariant-loop-item l = record {
  text : string_bytes l.out ++ each_behind item_text (drop l.item-index l.items)
      ≡ string_bytes l.fn.out ++ each_behind item_text l.items;
  known : AllByRecursion IsItem (take l.item-index l.items);
}

use Rattle.std.proofs.Common.{◌≡◌, ◌++◌, drop, string_bytes}
use Rattle.std.specs.List.{flat_map}
use Rattle.smf_world.specs.TrailText.{item_line}
use Rattle.smf_world.proofs.trail.put_items.Given as goal

abbrev pub invariant-loop-item : goal.invariant-loop-item
invariant-loop-item l = string_bytes l.out ++ flat_map item_line (drop l.item-index l.items)
    ≡ string_bytes l.fn.out ++ flat_map item_line l.items

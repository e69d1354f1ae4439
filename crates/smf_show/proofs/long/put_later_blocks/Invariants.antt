use Rattle.std.proofs.Common.{◌≡◌, ◌++◌, drop, string_bytes}
use Rattle.std.specs.List.{flat_map}
use Rattle.smf_show.specs.Long.{later_block}
use Rattle.smf_show.proofs.long.put_later_blocks.Given as goal

abbrev pub invariant-loop-instance : goal.invariant-loop-instance
invariant-loop-instance l = string_bytes l.out ++ flat_map (later_block l.all) (drop l.instance-index l.instances)
    ≡ string_bytes l.fn.out ++ flat_map (later_block l.all) l.instances

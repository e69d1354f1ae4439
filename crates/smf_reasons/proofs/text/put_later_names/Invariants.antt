use Rattle.std.proofs.Common.{◌≡◌, ◌++◌, drop, string_bytes}
use Rattle.std.specs.List.{flat_map}
use Rattle.smf_reasons.specs.Texts.{later_name}
use Rattle.smf_reasons.proofs.text.put_later_names.Given as goal

abbrev pub invariant-loop-name : goal.invariant-loop-name
invariant-loop-name l = string_bytes l.out ++ flat_map later_name (drop l.name-index l.names)
    ≡ string_bytes l.fn.out ++ flat_map later_name l.names

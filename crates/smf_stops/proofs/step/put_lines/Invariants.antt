use Rattle.std.proofs.Common.{◌≡◌, ◌++◌, drop, string_bytes}
use Rattle.std.specs.List.{flat_map}
use Rattle.smf_stops.specs.Steps.{line_of}
use Rattle.smf_stops.proofs.step.put_lines.Given as goal

abbrev pub invariant-loop-name : goal.invariant-loop-name
invariant-loop-name l = string_bytes l.out ++ flat_map line_of (drop l.name-index l.names)
    ≡ string_bytes l.fn.out ++ flat_map line_of l.names

use Rattle.std.proofs.Common.{◌≡◌, ◌++◌, drop, string_bytes}
use Rattle.std.specs.List.{flat_map}
use Rattle.smf_stops.specs.Text.{name_text}
use Rattle.smf_stops.proofs.text.put_names.Given as goal

abbrev pub invariant-loop-stop : goal.invariant-loop-stop
invariant-loop-stop l = string_bytes l.out ++ flat_map name_text (drop l.stop-index l.stops)
    ≡ string_bytes l.fn.out ++ flat_map name_text l.stops

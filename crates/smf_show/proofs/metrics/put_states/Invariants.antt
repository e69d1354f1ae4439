use Rattle.std.proofs.Common.{◌≡◌, ◌++◌, drop, string_bytes}
use Rattle.std.specs.List.{flat_map}
use Rattle.smf_show.specs.Metrics.{state_line}
use Rattle.smf_show.proofs.metrics.put_states.Given as goal

abbrev pub invariant-loop-shown : goal.invariant-loop-shown
invariant-loop-shown l = string_bytes l.out ++ flat_map state_line (drop l.shown-index l.all)
    ≡ string_bytes l.fn.out ++ flat_map state_line l.all

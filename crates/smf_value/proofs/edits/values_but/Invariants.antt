use Rattle.std.proofs.Common.{◌≡◌, ◌++◌, drop, not}
use Rattle.std.specs.Prelude.{filter}
use Rattle.smf_value.specs.Values.{is_value}
use Rattle.smf_value.proofs.edits.values_but.Given as goal

abbrev pub invariant-loop-other : goal.invariant-loop-other
invariant-loop-other l = l.others ++ filter (λ w. not (is_value w l.value)) (drop l.other-index l.values)
    ≡ filter (λ w. not (is_value w l.value)) l.values

use Rattle.std.proofs.Common.{◌≡◌, ◌-◌}
use Rattle.smf_value.specs.Decoder.{values_at}
use Rattle.smf_value.proofs.Loops.{with_front}
use Rattle.smf_value.proofs.decoder.values_at.Given as goal

abbrev pub invariant-loop : goal.invariant-loop
invariant-loop l = with_front l.values (values_at l.kind (l.count - l.counter) l.rest)
    ≡ values_at l.kind l.count l.bytes

use Rattle.std.proofs.Common.{◌≡◌, ◌-◌, None}
use Rattle.smf_value.specs.Groups.{last_name}
use Rattle.smf_value.specs.Decoder.{properties_at}
use Rattle.smf_value.proofs.Loops.{with_front}
use Rattle.smf_value.proofs.decoder.properties_at.Given as goal

abbrev pub invariant-loop : goal.invariant-loop
invariant-loop l = with_front l.properties (properties_at (last_name l.properties) (l.count - l.counter) l.rest)
    ≡ properties_at None l.count l.bytes

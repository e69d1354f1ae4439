use Rattle.std.proofs.Common.{◌≡◌, ◌-◌, None}
use Rattle.smf_value.specs.Groups.{last_group_name}
use Rattle.smf_value.specs.Decoder.{groups_at}
use Rattle.smf_value.proofs.Loops.{with_front}
use Rattle.smf_value.proofs.decoder.groups_at.Given as goal

abbrev pub invariant-loop : goal.invariant-loop
invariant-loop l = with_front l.groups (groups_at (last_group_name l.groups) (l.count - l.counter) l.rest)
    ≡ groups_at None l.count l.bytes

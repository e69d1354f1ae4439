use Rattle.std.proofs.Common.{◌≡◌, ◌-◌, None}
use Rattle.smf_state.specs.Fields.{text_of_borrow}
use Rattle.smf_wire.specs.Grammar.{all_known_at, last_known}
use Rattle.smf_wire.proofs.Loops.{with_front}
use Rattle.smf_wire.proofs.decoder.all_known_at.Given as goal

abbrev pub invariant-loop : goal.invariant-loop
invariant-loop l = with_front l.rows (all_known_at (last_known l.rows) (l.count - l.counter) (text_of_borrow l.left))
    ≡ all_known_at None l.count (text_of_borrow l.rest)

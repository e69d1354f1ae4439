use Rattle.std.proofs.Common.{◌≡◌, ◌-◌, None}
use Rattle.smf_state.specs.Fields.{text_of_borrow}
use Rattle.smf_wire.specs.Grammar.{items_at, last_item}
use Rattle.smf_wire.proofs.Loops.{with_front}
use Rattle.smf_wire.proofs.decoder.items_at.Given as goal

abbrev pub invariant-loop : goal.invariant-loop
invariant-loop l = with_front l.items (items_at (last_item l.items) (l.count - l.counter) (text_of_borrow l.left))
    ≡ items_at None l.count (text_of_borrow l.rest)

use Rattle.std.proofs.Common.{◌≡◌, ◌≤◌, length}
use Rattle.std.specs.Vec.Iter.{into_iter_items}
use Rattle.smf_state.specs.Patched.{with_items}
use Rattle.smf_state.proofs.held_view.put_all.Given as goal

abbrev pub invariant-loop-change : goal.invariant-loop-change
invariant-loop-change l =
    let rest = into_iter_items l.change-iterator in
    record {
      items : with_items rest l.own.items ≡ with_items l.fn.changes.items l.fn.own.items;
      room : length rest ≤ l.own.room;
    }

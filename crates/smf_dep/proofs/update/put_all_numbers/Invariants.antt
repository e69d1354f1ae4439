use Rattle.std.proofs.Common.{◌≡◌, ◌++◌, ◌+◌, ◌≤◌, drop, length, map}
use Rattle.std.specs.Vec.{vec_capacity}
use Rattle.smf_dep.specs.Updates.{number}
use Rattle.smf_dep.proofs.update.put_all_numbers.Given as goal

abbrev pub invariant-loop-member : goal.invariant-loop-member
invariant-loop-member l =
    record {
      rest : l.numbers.items ++ map number (drop l.member-index l.members)
          ≡ l.fn.numbers.items ++ map number l.members;
      size : length l.numbers.items ≡ length l.fn.numbers.items + l.member-index;
      room : length l.fn.numbers.items + length l.members ≤ vec_capacity l.numbers;
    }

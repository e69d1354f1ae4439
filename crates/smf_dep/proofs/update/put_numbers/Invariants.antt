use Rattle.std.proofs.Common.{◌≡◌, ◌++◌, ◌+◌, ◌≤◌, drop, length, map}
use Rattle.std.specs.Vec.{vec_capacity}
use Rattle.smf_dep.specs.Updates.{number_at}
use Rattle.smf_dep.proofs.update.put_numbers.Given as goal

abbrev pub invariant-loop-place : goal.invariant-loop-place
invariant-loop-place l =
    record {
      rest : l.numbers.items ++ map (number_at l.members) (drop l.place-index l.places)
          ≡ l.fn.numbers.items ++ map (number_at l.members) l.places;
      size : length l.numbers.items ≡ length l.fn.numbers.items + l.place-index;
      room : length l.fn.numbers.items + length l.places ≤ vec_capacity l.numbers;
    }

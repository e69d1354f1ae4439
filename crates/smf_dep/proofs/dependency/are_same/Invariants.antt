use Rattle.std.proofs.Common.{◌≡◌, drop, length}
use Rattle.smf_dep.proofs.dependency.are_same.Given as goal

abbrev pub invariant-loop-other : goal.invariant-loop-other
invariant-loop-other l =
    record {
      at_index : l.place ≡ l.other-index;
      as_long : length l.dependencies ≡ length l.others;
      same : drop l.other-index l.dependencies ≡ drop l.other-index l.others → l.dependencies ≡ l.others;
    }

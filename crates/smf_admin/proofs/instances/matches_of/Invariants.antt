use Rattle.std.proofs.Common.{◌≡◌, ◌+◌, ◌≤◌, None, drop, length}
use Rattle.smf_admin.specs.Instances.{first_or, instances_by_pattern}
use Rattle.smf_admin.proofs.instances.matches_of.Given as goal

abbrev pub invariant-loop-item : goal.invariant-loop-item
invariant-loop-item l =
    record {
      few : l.count ≤ l.item-index;
      count : l.count + length (instances_by_pattern l.pattern (drop l.item-index l.view))
          ≡ length (instances_by_pattern l.pattern l.view);
      first : first_or l.first (instances_by_pattern l.pattern (drop l.item-index l.view))
          ≡ first_or None (instances_by_pattern l.pattern l.view);
    }

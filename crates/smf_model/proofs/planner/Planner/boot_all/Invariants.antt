use Rattle.std.proofs.Common.{◌≡◌, ◌++◌, drop, false}
use Rattle.std.specs.List.{list_any}
use Rattle.smf_model.specs.Look.{bare, groups_of, instances}
use Rattle.smf_model.specs.Next.{all_booted, is_last_number, persistent}
use Rattle.smf_model.proofs.planner.Planner.boot_all.Given as goal

abbrev pub invariant-loop-entry : goal.invariant-loop-entry
invariant-loop-entry l = record {
  within : list_any is_last_number (bare (drop l.entry-index l.entries)) ≡ false;
  same : l.changes ++ all_booted (persistent (groups_of l.self)) (bare (drop l.entry-index l.entries))
      ≡ l.fn.changes ++ all_booted (persistent (groups_of l.self)) (instances l.self);
}

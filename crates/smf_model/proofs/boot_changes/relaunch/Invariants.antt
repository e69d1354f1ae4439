use Rattle.std.proofs.Common.{◌≡◌, ◌++◌, map, drop, false}
use Rattle.std.specs.List.{list_any}
use Rattle.smf_model.specs.Next.{is_last_launch, change_of_relaunch}
use Rattle.smf_model.proofs.boot_changes.relaunch.Given as goal

abbrev pub invariant-loop-launch : goal.invariant-loop-launch
invariant-loop-launch l = record {
  within : list_any is_last_launch (drop l.launch-index l.launches) ≡ false;
  same : l.changes ++ map change_of_relaunch (drop l.launch-index l.launches)
      ≡ l.fn.changes ++ map change_of_relaunch l.launches;
}

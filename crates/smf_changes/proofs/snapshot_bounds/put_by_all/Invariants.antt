use Rattle.std.proofs.Common.{◌≡◌, drop}
use Rattle.smf_changes.specs.ChangeRecord.{put_by_all}
use Rattle.smf_changes.proofs.snapshot_bounds.put_by_all.Given as goal

abbrev pub invariant-loop-change : goal.invariant-loop-change
invariant-loop-change l = put_by_all l.most (drop l.change-index l.changes) ≡ put_by_all l.top l.changes

use Rattle.std.proofs.Common.{◌≡◌, drop}
use Rattle.std.specs.Prelude.{flat_map}
use Rattle.smf_fmri.specs.ByKey.{put_all}
use Rattle.smf_changes.specs.Candidates.{running_by}
use Rattle.smf_changes.specs.Changes.{by_itself}
use Rattle.smf_changes.proofs.candidates.put_running.Given as goal

abbrev pub invariant-loop-change : goal.invariant-loop-change
invariant-loop-change g l =
    put_all by_itself (flat_map (running_by l.plain.held) (drop l.change-index l.changes)) l.all
    ≡ put_all by_itself (flat_map (running_by l.plain.held) l.changes) l.fn.all

use Rattle.std.proofs.Common.{◌≡◌}
use Rattle.std.specs.Vec.Iter.{into_iter_items}
use Rattle.smf_fmri.specs.ByKey.{put_all}
use Rattle.smf_value.specs.Groups.{by_group}
use Rattle.smf_runs.proofs.unrefreshed.composed.Given as goal

abbrev pub invariant-loop-group : goal.invariant-loop-group
invariant-loop-group l = put_all by_group (into_iter_items l.group-iterator) l.groups
    ≡ put_all by_group l.fn.own l.fn.service

use Rattle.std.proofs.Common.{◌≡◌, drop}
use Rattle.smf_fmri.specs.ByKey.{put_all}
use Rattle.smf_value.specs.Groups.{by_group}
use Rattle.smf_model.proofs.reads.put_copies.Given as goal

abbrev pub invariant-loop-group : goal.invariant-loop-group
invariant-loop-group l = put_all by_group (drop l.group-index l.groups) l.all ≡ put_all by_group l.groups l.fn.into

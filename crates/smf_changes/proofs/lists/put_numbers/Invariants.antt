use Rattle.std.proofs.Common.{◌≡◌, drop}
use Rattle.smf_fmri.specs.ByKey.{put_all}
use Rattle.smf_changes.specs.Changes.{by_itself}
use Rattle.smf_changes.proofs.lists.put_numbers.Given as goal

abbrev pub invariant-loop-number : goal.invariant-loop-number
invariant-loop-number l = put_all by_itself (drop l.number-index l.numbers) l.all ≡ put_all by_itself l.numbers l.fn.all

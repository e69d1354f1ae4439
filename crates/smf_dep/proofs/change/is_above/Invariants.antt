use Rattle.std.proofs.Common.{drop}
use Rattle.smf_fmri.specs.ByKey.{IsAbove}
use Rattle.smf_dep.specs.Members.{by_member}
use Rattle.smf_dep.proofs.change.is_above.Given as goal

abbrev pub invariant-loop-member : goal.invariant-loop-member
invariant-loop-member l =
    IsAbove by_member l.instance (drop l.member-index l.members) → IsAbove by_member l.instance l.members

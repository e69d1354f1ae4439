use Rattle.std.proofs.Common.{◌≡◌, drop}
use Rattle.smf_fmri.specs.ByKey.{put_all}
use Rattle.smf_dep.specs.Members.{by_member}
use Rattle.smf_dep.specs.Updates.{AllFit, with_members}
use Rattle.smf_dep.proofs.update.successors.Given as goal

abbrev pub invariant-loop-change : goal.invariant-loop-change
invariant-loop-change l =
    record {
      fit : AllFit l.all.items l.members;
      put : with_members (drop l.change-index l.changes) (put_all by_member l.all.items l.members)
          ≡ with_members l.changes l.members;
    }

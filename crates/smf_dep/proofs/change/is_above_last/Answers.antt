use Rattle.std.proofs.lemmas.Bool.{leb-true}
use Rattle.smf_dep.specs.Members.{by_member}
use Rattle.smf_dep.proofs.ChangeSteps.{above_last}
use Rattle.smf_dep.proofs.change.is_above_last.Goals as goal

pub returns-in-Err : goal.returns-in-Err
returns-in-Err c =
    λ t. above_last by_member c.args.instance c.in-Err.place c.args.members.now
    (leb-true _ _ t) c.in-Err.ensures.absent

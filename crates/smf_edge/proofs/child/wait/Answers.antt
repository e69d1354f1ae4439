use Rattle.std.proofs.Common.{refl}
use Rattle.smf_edge.proofs.Starts.{left_kills, no_kills}
use Rattle.smf_edge.proofs.child.wait.Goals as goal

pub returns-in_err-clear-in-Ok-clause-kills : goal.returns-in_err-clear-in-Ok-clause-kills
returns-in_err-clear-in-Ok-clause-kills g c =
    left_kills g.R.System.facts c.args.kid.now c.in-Ok.status _ _ c.in-Ok.ensures.ended c.clear.ensures.kills

pub returns-then-not-branch-clause-kills : goal.returns-then-not-branch-clause-kills
returns-then-not-branch-clause-kills g c =
    left_kills g.R.System.facts c.args.kid.now c.in-Ok.status _ _ c.in-Ok.ensures.ended c.clear.ensures.kills

pub returns-else-not-branch-clause-kills : goal.returns-else-not-branch-clause-kills
returns-else-not-branch-clause-kills g c =
    left_kills g.R.System.facts c.args.kid.now c.in-Ok.status _ _ c.in-Ok.ensures.ended c.clear.ensures.kills

pub returns-in-Err-clause-kills : goal.returns-in-Err-clause-kills
returns-in-Err-clause-kills g c = no_kills _ _ _ refl

use Rattle.std.proofs.Common.{refl}
use Rattle.std.specs.declared.process.ExitStatus.{ExitStatus}
use Rattle.smf_edge.proofs.Places.{some_is}
use Rattle.smf_edge.proofs.Starts.{left_kills, no_kills}
use Rattle.smf_edge.proofs.child.see.Goals as goal

pub returns-in_err-clear-in-Ok-Some-clause-kills : goal.returns-in_err-clear-in-Ok-Some-clause-kills
returns-in_err-clear-in-Ok-Some-clause-kills g c =
    let Q : ExitStatus → Type 0 = λ s. g.R.System.facts.has_ended c.args.kid.now.child s in
    left_kills g.R.System.facts c.args.kid.now c.in-Ok-Some.status _ _
    (some_is c.in-Ok-Some.field-0 c.in-Ok-Some.status Q c.in-Ok-Some.field-0-is c.in-Ok-Some.ensures.ended)
    c.clear.ensures.kills

pub returns-then-not-branch-clause-kills : goal.returns-then-not-branch-clause-kills
returns-then-not-branch-clause-kills g c =
    let Q : ExitStatus → Type 0 = λ s. g.R.System.facts.has_ended c.args.kid.now.child s in
    left_kills g.R.System.facts c.args.kid.now c.in-Ok-Some.status _ _
    (some_is c.in-Ok-Some.field-0 c.in-Ok-Some.status Q c.in-Ok-Some.field-0-is c.in-Ok-Some.ensures.ended)
    c.clear.ensures.kills

pub returns-else-not-branch-clause-kills : goal.returns-else-not-branch-clause-kills
returns-else-not-branch-clause-kills g c =
    let Q : ExitStatus → Type 0 = λ s. g.R.System.facts.has_ended c.args.kid.now.child s in
    left_kills g.R.System.facts c.args.kid.now c.in-Ok-Some.status _ _
    (some_is c.in-Ok-Some.field-0 c.in-Ok-Some.status Q c.in-Ok-Some.field-0-is c.in-Ok-Some.ensures.ended)
    c.clear.ensures.kills

pub returns-in-Ok-None-clause-kills : goal.returns-in-Ok-None-clause-kills
returns-in-Ok-None-clause-kills g c = no_kills _ _ _ refl

pub returns-in-Err-clause-kills : goal.returns-in-Err-clause-kills
returns-in-Err-clause-kills g c = no_kills _ _ _ refl

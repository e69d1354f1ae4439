use Rattle.std.proofs.Common.{◌≡◌, ◌∙◌, true, false, sym}
use Rattle.std.proofs.lemmas.Result.{err_from_is_err_and}
use Rattle.smf_dep.specs.Requirements.{is_dependency}
use Rattle.smf_dep.proofs.Behind.{group_fails, group_more, group_passed, groups_done}
use Rattle.smf_dep.proofs.requirements.dependencies_of.Goals as goal

pub loop-group-preserved-then-not-is_dependency : goal.loop-group-preserved-then-not-is_dependency
loop-group-preserved-then-not-is_dependency c =
    let other : is_dependency c.group-item.result ≡ false = sym c.is_dependency.ensures ∙ c.if-not-is_dependency.true in
    group_passed c.args.groups.now c.loop-group.group-index c.group-item.result c.loop-group.all
    c.loop-group-test.true c.group-item.is other c.loop-group.invariant

pub returns-in_err-dependency : goal.returns-in_err-dependency
returns-in_err-dependency c =
    let p = err_from_is_err_and c.from_residual.result c.from_residual.ensures.1 in
    let is : is_dependency c.group-item.result ≡ true = sym c.is_dependency.ensures ∙ c.if-not-is_dependency.false in
    rw (p.1, p.2)
    (group_fails c.in_err-dependency.field-0.0 c.args.groups.now c.loop-group.group-index c.group-item.result
    c.loop-group.all
    c.loop-group-test.true c.group-item.is is c.in_err-dependency.ensures c.loop-group.invariant)

pub loop-group-preserved : goal.loop-group-preserved
loop-group-preserved c =
    let is : is_dependency c.group-item.result ≡ true = sym c.is_dependency.ensures ∙ c.if-not-is_dependency.false in
    rw c.in_ok-push.ensures.ok
    (group_more c.args.groups.now c.loop-group.group-index c.group-item.result c.loop-group.all
    c.in_ok-dependency.dependency
    c.loop-group-test.true c.group-item.is is c.in_ok-dependency.ensures c.loop-group.invariant)

pub returns : goal.returns
returns c = groups_done c.args.groups.now c.loop-group.group-index c.loop-group.all c.loop-group-test.false
    c.loop-group.invariant

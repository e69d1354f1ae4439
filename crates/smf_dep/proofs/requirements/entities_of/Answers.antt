use Rattle.std.proofs.lemmas.Result.{err_from_is_err_and}
use Rattle.smf_dep.proofs.Behind.{entities_done, entity_fails, entity_more}
use Rattle.smf_dep.proofs.requirements.entities_of.Goals as goal

pub returns-in_err-entity : goal.returns-in_err-entity
returns-in_err-entity c =
    let p = err_from_is_err_and c.from_residual.result c.from_residual.ensures.1 in
    rw (p.1, p.2)
    (entity_fails c.in_err-entity.field-0.0 c.args.values.now c.loop-value.value-index c.value-item.result
    c.loop-value.entities
    c.loop-value-test.true c.value-item.is c.in_err-entity.ensures c.loop-value.invariant)

pub loop-value-preserved : goal.loop-value-preserved
loop-value-preserved c =
    rw c.in_ok-push.ensures.ok
    (entity_more c.args.values.now c.loop-value.value-index c.value-item.result c.loop-value.entities
    c.in_ok-entity.entity
    c.loop-value-test.true c.value-item.is c.in_ok-entity.ensures c.loop-value.invariant)

pub returns : goal.returns
returns c = entities_done c.args.values.now c.loop-value.value-index c.loop-value.entities c.loop-value-test.false
    c.loop-value.invariant

use Rattle.std.proofs.Common.{◌∙◌, subst, sym}
use Rattle.smf_world.specs.Formed.{IsFormed}
use Rattle.smf_model.specs.Laws.{IsNumbered}
use Rattle.smf_machine.proofs.Soundness.{now_same, safe_new, sound_new, world_reached}
use Rattle.smf_machine.proofs.Linked.{linked_first}
use Rattle.smf_machine.proofs.machine.Machine.new.Goals as goal

pub invariant_of-system : goal.invariant_of-system
invariant_of-system g c =
    linked_first c.over.result.held c.over.result.recent c.parts_of.result
    (c.parts_of.ensures c.over.result.held (c.in-Ok.ensures.exact ∙ sym c.over.ensures.held)) c.over.ensures.recent

pub invariant_of-result : goal.invariant_of-result
invariant_of-result g c =
    sound_new c.over.result.held _ c.boot.new.self
    (c.parts_of.ensures c.over.result.held (c.in-Ok.ensures.exact ∙ sym c.over.ensures.held))
    (subst IsNumbered (sym c.over.ensures.held) c.in-Ok.ensures.numbered)
    (subst IsFormed (sym c.over.ensures.held) c.in-Ok.ensures.formed) c.in-Ok-boot.ensures.accepted
    c.in-Ok-boot.ensures.ok

pub returns-in-Ok-boot-clause-safe : goal.returns-in-Ok-boot-clause-safe
returns-in-Ok-boot-clause-safe g c =
    safe_new c.over.result.held _ c.boot.new.self
    (c.parts_of.ensures c.over.result.held (c.in-Ok.ensures.exact ∙ sym c.over.ensures.held))
    (subst IsNumbered (sym c.over.ensures.held) c.in-Ok.ensures.numbered) c.in-Ok-boot.ensures.accepted
    c.in-Ok-boot.ensures.ok

pub returns-in-Ok-boot-clause-reached : goal.returns-in-Ok-boot-clause-reached
returns-in-Ok-boot-clause-reached g c =
    world_reached c.over.result.held _ c.boot.new.self
    (c.parts_of.ensures c.over.result.held (c.in-Ok.ensures.exact ∙ sym c.over.ensures.held))
    (subst IsNumbered (sym c.over.ensures.held) c.in-Ok.ensures.numbered) c.in-Ok-boot.ensures.accepted
    c.in-Ok-boot.ensures.ok

pub returns-in-Err-boot-clause-err : goal.returns-in-Err-boot-clause-err
returns-in-Err-boot-clause-err g c =
    c.into_plain.ensures.held
    ∙ now_same c.over.result.held c.system.inside.repository.held c.parts_of.result c.system.inside.parts
    (c.system.view_is ∙ c.in-Err-boot.ensures.err) ∙ c.over.ensures.held

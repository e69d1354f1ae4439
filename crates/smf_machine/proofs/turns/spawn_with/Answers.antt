use Rattle.std.proofs.Common.{refl}
use Rattle.smf_machine.proofs.Turned.{answer_parts, at_most_none, single_kept}
use Rattle.smf_machine.proofs.Worlds.{on_err, same_world}
use Rattle.smf_machine.proofs.turns.spawn_with.Goals as goal
use Rattle.smf_machine.specs.Install.{rest_with, work_with}

pub install_answer-requires-clause-single : goal.install_answer-requires-clause-single
install_answer-requires-clause-single g c = λ any.
    single_kept c.args.parts.now c.prepare_all.new.parts (work_with c.args.works any)
    (rest_with c.in_ok-rests.rests any) c.prepare_all.ensures.same (c.in_ok-rests.ensures.rests any)
    (c.requires.single any)

pub returns-in_err-rests-clause-err : goal.returns-in_err-rests-clause-err
returns-in_err-rests-clause-err g c = λ h. on_err _ (same_world h h _ _ refl c.prepare_all.ensures.same)

pub returns-in-Err-clause-err : goal.returns-in-Err-clause-err
returns-in-Err-clause-err g c =
    λ h. same_world h h c.args.parts.now c.prepare_all.new.parts refl c.prepare_all.ensures.same

pub returns-in-Ok-clause-made : goal.returns-in-Ok-clause-made
returns-in-Ok-clause-made g c = λ h.
    answer_parts h c.args.parts.now c.prepare_all.new.parts c.install_answer.new.parts
    (work_with c.args.works c.in-Ok.answer) (rest_with c.in_ok-rests.rests c.in-Ok.answer)
    (c.in_ok-rests.ensures.rests c.in-Ok.answer) c.prepare_all.ensures.same c.install_answer.ensures
    (c.requires.plain c.in-Ok.answer) (at_most_none _ (c.requires.command c.in-Ok.answer))
    (c.requires.patches c.in-Ok.answer)

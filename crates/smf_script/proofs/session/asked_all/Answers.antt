use Rattle.std.proofs.Common.{◌≡◌, ◌∷◌, ◌++◌, ◌∙◌, ap, arith}
use Rattle.std.specs.Vec.Iter.{into_iter_items}
use Rattle.std.proofs.lemmas.Grind.{common_steps}
use Rattle.smf_script.proofs.May.{passed_on}
use Rattle.smf_script.specs.Failures.{gives_edit}
use Rattle.smf_script.proofs.May.{may_more}
use Rattle.smf_script.proofs.Deeds.{deed_first, deed_more, some_done}
use Rattle.smf_world.proofs.LaterWorlds.{later_self, later_then}
use Rattle.smf_script.proofs.session.asked_all.Goals as goal

pub loop-one-init : goal.loop-one-init
loop-one-init g c = record { split = grind (arith, common_steps); so_far = deed_first _ _; later = later_self _ }

pub loop-one-preserved : goal.loop-one-preserved
loop-one-preserved g c =
    record {
      split = c.loop-one.invariant.split ∙ grind (arith, common_steps);
      so_far = deed_more _ _ _ _ _ _ _
          _ _ _ c.loop-one.invariant.so_far c.in_ok-did.ensures.exact;
      later = later_then _ _ _ c.loop-one.invariant.later c.in_ok-did.ensures.later;
    }

pub returns : goal.returns
returns g c =
    let whole : c.args.all ≡ c.loop-one.yielded = c.loop-one.invariant.split ∙ grind (arith, common_steps) in
    record { exact = rw whole c.loop-one.invariant.so_far; later = c.loop-one.invariant.later; err = tt }

pub returns-in_err-did-clause-later : goal.returns-in_err-did-clause-later
returns-in_err-did-clause-later g c = later_then _ _ _ c.loop-one.invariant.later c.in_err-did.ensures.later

pub returns-in_err-did-clause-err : goal.returns-in_err-did-clause-err
returns-in_err-did-clause-err g c =
    let whole : c.args.all ≡ c.loop-one.yielded ++ c.in-Some.one ∷ into_iter_items c.next.new.self =
    c.loop-one.invariant.split ∙ ap (λ l. c.loop-one.yielded ++ l) c.in-Some.ensures.steps.0 in
    passed_on _ _ _ c.from_residual.ensures.1 (
      rw whole (may_more g.J.Journal.write_fails gives_edit c.loop-one.yielded c.in-Some.one
          (into_iter_items c.next.new.self) _ c.in_err-did.ensures.err.0),
      some_done c.args.node.now c.loop-one.node c.do_command.new.node c.loop-one.yielded c.in-Some.one
          (into_iter_items c.next.new.self) c.args.all _ _ _ whole c.loop-one.invariant.so_far
          c.in_err-did.ensures.err.1,
    )

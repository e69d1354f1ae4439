use Rattle.std.proofs.Common.{refl, sym, ◌∙◌}
use Rattle.smf_edge.proofs.Starts.{no_kills, one_kill}
use Rattle.smf_edge.proofs.child.clear.Goals as goal

pub returns-clause-done : goal.returns-clause-done
returns-clause-done g c = λ done child. (c.in_ok-killer.killer, c.in_ok-killer.ensures, c.in_ok-done.ensures.done done)

pub returns-clause-failed : goal.returns-clause-failed
returns-clause-failed g c =
    λ failed. (c.in_ok-killer.killer, c.in_ok-killer.ensures, c.in_ok-done.ensures.failed failed)

pub returns-then-not-is_child-clause-kills : goal.returns-then-not-is_child-clause-kills
returns-then-not-is_child-clause-kills g c = no_kills _ _ _ refl

pub returns-in_err-killer-clause-kills : goal.returns-in_err-killer-clause-kills
returns-in_err-killer-clause-kills g c = no_kills _ _ _ refl

pub returns-in_err-done-clause-kills : goal.returns-in_err-done-clause-kills
returns-in_err-done-clause-kills g c =
    one_kill _ c.args.group c.in_ok-killer.killer c.run.ensures.once.0 _ _
    (sym c.is_child.ensures ∙ c.if-not-is_child.false, refl) c.in_ok-killer.ensures c.run.ensures.once.1

pub returns-clause-kills : goal.returns-clause-kills
returns-clause-kills g c =
    one_kill _ c.args.group c.in_ok-killer.killer c.run.ensures.once.0 _ _
    (sym c.is_child.ensures ∙ c.if-not-is_child.false, refl) c.in_ok-killer.ensures c.run.ensures.once.1

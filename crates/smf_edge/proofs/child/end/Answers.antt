use Rattle.std.proofs.Common.{refl, sym, ◌∙◌, inl, inr}
use Rattle.smf_edge.proofs.Places.{done_if_no_err, told}
use Rattle.smf_edge.proofs.Starts.{no_kills, one_kill}
use Rattle.smf_edge.proofs.child.end.Goals as goal

pub returns-then-not-cleared-clause-failed : goal.returns-then-not-cleared-clause-failed
returns-then-not-cleared-clause-failed g c =
    λ _. inr (inl (c.in_ok-killer.killer, c.in_ok-killer.ensures, c.in_ok-cleared.ensures.failed c.if-not-cleared.true))

pub returns-clause-ended : goal.returns-clause-ended
returns-clause-ended g c = λ done.
    let ended = told _ c.wait.result (sym c.is_ok.ensures.value ∙ done) c.wait.ensures.ended in
    record {
      killed = done_if_no_err _ c.kill.result (sym c.is_err.ensures.value ∙ c.if-is_err.false) c.kill.ensures.killed;
      cleared = (c.in_ok-killer.killer, c.in_ok-killer.ensures, c.in_ok-cleared.ensures.done c.if-not-cleared.false);
      status = ended.0;
      ended = c.kill.ensures.ended ended.0 ended.1;
    }

pub returns-in_err-killer-clause-kills : goal.returns-in_err-killer-clause-kills
returns-in_err-killer-clause-kills g c = no_kills _ _ _ refl

pub returns-then-is_err-clause-kills : goal.returns-then-is_err-clause-kills
returns-then-is_err-clause-kills g c = no_kills _ _ _ refl

pub returns-in_err-cleared-clause-kills : goal.returns-in_err-cleared-clause-kills
returns-in_err-cleared-clause-kills g c =
    let killed = done_if_no_err _ c.kill.result (sym c.is_err.ensures.value ∙ c.if-is_err.false) c.kill.ensures.killed in
    one_kill _ c.args.kid.now.group c.in_ok-killer.killer c.run.ensures.once.0 _ _ (killed, refl) c.in_ok-killer.ensures
    c.run.ensures.once.1

pub returns-then-not-cleared-clause-kills : goal.returns-then-not-cleared-clause-kills
returns-then-not-cleared-clause-kills g c =
    let killed = done_if_no_err _ c.kill.result (sym c.is_err.ensures.value ∙ c.if-is_err.false) c.kill.ensures.killed in
    one_kill _ c.args.kid.now.group c.in_ok-killer.killer c.run.ensures.once.0 _ _ (killed, refl) c.in_ok-killer.ensures
    c.run.ensures.once.1

pub returns-clause-kills : goal.returns-clause-kills
returns-clause-kills g c =
    let killed = done_if_no_err _ c.kill.result (sym c.is_err.ensures.value ∙ c.if-is_err.false) c.kill.ensures.killed in
    one_kill _ c.args.kid.now.group c.in_ok-killer.killer c.run.ensures.once.0 _ _ (killed, refl) c.in_ok-killer.ensures
    c.run.ensures.once.1

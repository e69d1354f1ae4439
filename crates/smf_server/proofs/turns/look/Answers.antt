use Rattle.std.proofs.Common.{ap, inl, inr, refl}
use Rattle.smf_edge.specs.Answers.{children_state}
use Rattle.smf_node.specs.Rounds.{at, course}
use Rattle.smf_server.specs.Turns.{between}
use Rattle.smf_server.proofs.Marked.{remedied_agree, some_agree}
use Rattle.smf_server.proofs.Watching.{still_same, still_self}
use Rattle.smf_watch.proofs.FaultExits.{passed_on}
use Rattle.smf_server.proofs.turns.look.Goals as goal

pub returns-clause-looked : goal.returns-clause-looked
returns-clause-looked g c =
    record {
      now = c.now-now.result;
      read = c.now-now.ensures;
      done = ap (at
          (course c.args.server.now.node
          (children_state (g.K.Kids.ledger c.args.server.now.kids) (g.K.Kids.failures c.args.server.now.kids))))
          (rw c.in_ok-found.ensures.remedies at rw c.as_slice-remedies.ensures.value at c.in_ok-remedy_all.ensures.ok);
      busy = rw c.in_ok-found.ensures.remedies at rw c.as_slice-remedies.ensures.value at c.is_busy_with-server.ensures;
      looked = c.in_ok-found.ensures.looked;
      kept = c.in_ok-found.ensures.kept;
      told = rw c.in_ok-found.ensures.numbers at rw c.as_slice-numbers.ensures at c.in_ok-lines.ensures;
      watched = refl;
      noted = refl;
    }

pub returns-in_err-remedy_all-clause-agrees : goal.returns-in_err-remedy_all-clause-agrees
returns-in_err-remedy_all-clause-agrees g c =
    λ b a. some_agree {b = b} g.J.Journal.write_fails _ _ _ _ _ c.in_err-remedy_all.ensures.err a

pub returns-clause-agrees : goal.returns-clause-agrees
returns-clause-agrees g c =
    λ b a. remedied_agree {b = b} c.in_ok-found.found.remedies.items c.args.server.now.node _ _
    (rw c.as_slice-remedies.ensures.value at c.in_ok-remedy_all.ensures.ok) a

pub returns-in_err-found-clause-failed : goal.returns-in_err-found-clause-failed
returns-in_err-found-clause-failed g c = passed_on _ _ _ c.from_residual.ensures.1 (inl (refl, refl))

pub returns-in_err-lines-clause-failed : goal.returns-in_err-lines-clause-failed
returns-in_err-lines-clause-failed g c = passed_on _ _ _ c.from_residual-in_err-lines.ensures.1 (inl (refl, refl))

pub returns-in_err-remedy_all-clause-failed : goal.returns-in_err-remedy_all-clause-failed
returns-in_err-remedy_all-clause-failed g c =
    passed_on _ _ _ c.from_residual-in_err-remedy_all.ensures.1
    (inr (
      c.now-now.result,
      c.now-now.ensures,
      rw c.in_ok-found.ensures.remedies at rw c.as_slice-remedies.ensures.value at c.in_err-remedy_all.ensures.err,
      refl,
    ))

pub returns-in_err-found-clause-watches : goal.returns-in_err-found-clause-watches
returns-in_err-found-clause-watches g c = still_self (g.T.Timer.says c.args.timer.now) (between g.K.Kids.ledger g.K.Kids.failures c.args.server.now).standing

pub returns-in_err-lines-clause-watches : goal.returns-in_err-lines-clause-watches
returns-in_err-lines-clause-watches g c = still_self (g.T.Timer.says c.args.timer.now) (between g.K.Kids.ledger g.K.Kids.failures c.args.server.now).standing

pub returns-in_err-remedy_all-clause-watches : goal.returns-in_err-remedy_all-clause-watches
returns-in_err-remedy_all-clause-watches g c =
    still_same (g.T.Timer.says c.args.timer.now) _ _ _ _ c.remedy_all.ensures.later refl

pub returns-clause-watches : goal.returns-clause-watches
returns-clause-watches g c =
    still_same (g.T.Timer.says c.args.timer.now) _ _ _ _ c.remedy_all.ensures.later refl

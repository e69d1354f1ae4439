use Rattle.std.proofs.Common.{inl, refl}
use Rattle.smf_server.proofs.TurnSteps.{moved_later}
use Rattle.smf_server.proofs.Watching.{still_once, still_same}
use Rattle.smf_watch.proofs.FaultExits.{passed_on}
use Rattle.smf_server.proofs.turns.go.Goals as goal

pub returns-clause-gone : goal.returns-clause-gone
returns-clause-gone g c =
    record {
      how = c.in_ok-how.how;
      made = c.in_ok-how.ensures.ok;
      left = c.is_busy-server.ensures;
      now = c.now-now.result;
      read = c.now-now.ensures;
      watched = c.in_ok-see.ensures.seen;
    }

pub returns-in_err-how-clause-failed : goal.returns-in_err-how-clause-failed
returns-in_err-how-clause-failed g c = passed_on _ _ _ c.from_residual.ensures.1 (inl c.in_err-how.ensures.err)

pub returns-in_err-how-clause-watches : goal.returns-in_err-how-clause-watches
returns-in_err-how-clause-watches g c =
    still_same (g.T.Timer.says c.args.timer.now) _ _ _ _ (moved_later _ _ _ _ c.drive.ensures.moves) refl

pub returns-in_err-see-clause-watches : goal.returns-in_err-see-clause-watches
returns-in_err-see-clause-watches g c =
    still_same (g.T.Timer.says c.args.timer.now) _ _ _ _ (moved_later _ _ _ _ c.drive.ensures.moves)
    c.in_err-see.ensures.kept

pub returns-clause-watches : goal.returns-clause-watches
returns-clause-watches g c =
    still_once (g.T.Timer.says c.args.timer.now) _ _ _ _ c.now-now.result (moved_later _ _ _ _ c.drive.ensures.moves) c.now-now.ensures
    c.in_ok-see.ensures.seen

use Rattle.std.proofs.Common.{inl, inr}
use Rattle.smf_script.proofs.Moves.{moves_then}
use Rattle.smf_server.specs.Turns.{between}
use Rattle.smf_server.proofs.Watching.{still_then}
use Rattle.smf_watch.proofs.FaultExits.{passed_on}
use Rattle.smf_server.proofs.turns.go_on.Goals as goal

pub returns-clause-gone : goal.returns-clause-gone
returns-clause-gone g c =
    record {
      one = (between g.K.Kids.ledger g.K.Kids.failures c.go.new.server).standing;
      first = c.in_ok-go.ensures.gone;
      more = rw (c.wants_more-wanted.ensures, c.size_of-before.ensures, c.size_of-after.ensures) at
          c.in_ok-go_if.ensures.gone;
    }

pub returns-in_err-go-clause-failed : goal.returns-in_err-go-clause-failed
returns-in_err-go-clause-failed g c = passed_on _ _ _ c.from_residual.ensures.1 (inl c.in_err-go.ensures.failed)

pub returns-in_err-go_if-clause-failed : goal.returns-in_err-go_if-clause-failed
returns-in_err-go_if-clause-failed g c =
    passed_on _ _ _ c.from_residual-in_err-go_if.ensures.1
    (inr (
      (between g.K.Kids.ledger g.K.Kids.failures c.go.new.server).standing,
      c.in_ok-go.ensures.gone,
      rw (c.wants_more-wanted.ensures, c.size_of-before.ensures, c.size_of-after.ensures) at
          c.in_err-go_if.ensures.failed.0,
      c.in_err-go_if.ensures.failed.1,
    ))

pub returns-in_err-go_if-clause-moves : goal.returns-in_err-go_if-clause-moves
returns-in_err-go_if-clause-moves g c = moves_then _ _ _ _ _ _ c.go.ensures.moves c.go_if.ensures.moves

pub returns-clause-moves : goal.returns-clause-moves
returns-clause-moves g c = moves_then _ _ _ _ _ _ c.go.ensures.moves c.go_if.ensures.moves

pub returns-in_err-go_if-clause-watches : goal.returns-in_err-go_if-clause-watches
returns-in_err-go_if-clause-watches g c =
    still_then (g.T.Timer.says c.args.timer.now) (between g.K.Kids.ledger g.K.Kids.failures c.args.server.now).standing
    (between g.K.Kids.ledger g.K.Kids.failures c.go.new.server).standing
    (between g.K.Kids.ledger g.K.Kids.failures c.go_if.new.server).standing c.go.ensures.watches
    c.go_if.ensures.watches

pub returns-clause-watches : goal.returns-clause-watches
returns-clause-watches g c =
    still_then (g.T.Timer.says c.args.timer.now) (between g.K.Kids.ledger g.K.Kids.failures c.args.server.now).standing
    (between g.K.Kids.ledger g.K.Kids.failures c.go.new.server).standing
    (between g.K.Kids.ledger g.K.Kids.failures c.go_if.new.server).standing c.go.ensures.watches
    c.go_if.ensures.watches

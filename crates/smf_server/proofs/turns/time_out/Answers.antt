use Rattle.std.proofs.Common.{inl, inr, refl}
use Rattle.smf_edge.specs.Answers.{children_state}
use Rattle.smf_node.specs.Rounds.{course}
use Rattle.smf_server.specs.Turns.{Standing, between}
use Rattle.smf_script.proofs.Moves.{moves_then}
use Rattle.smf_server.proofs.Late.{stopped_late, times_moved}
use Rattle.smf_server.proofs.TurnSteps.{moved_later}
use Rattle.smf_server.proofs.Watching.{still_same, still_then}
use Rattle.smf_watch.proofs.FaultExits.{passed_on}
use Rattle.smf_server.proofs.turns.time_out.Goals as goal

pub returns-clause-timed : goal.returns-clause-timed
returns-clause-timed g c =
    record {
      now = c.now-now.result;
      read = c.now-now.ensures;
      timed = c.time_out.new.node;
      late = c.in_ok-late.late;
      times = c.in_ok-late.ensures.ok;
      goes = rw c.has_happened-happened.ensures at c.in_ok-go_by.ensures.gone;
    }

pub returns-in_err-late-clause-failed : goal.returns-in_err-late-clause-failed
returns-in_err-late-clause-failed g c =
    passed_on _ _ _ c.from_residual.ensures.1
    (c.now-now.result, c.now-now.ensures, inl (c.in_err-late.ensures.err, refl))

pub returns-in_err-go_by-clause-failed : goal.returns-in_err-go_by-clause-failed
returns-in_err-go_by-clause-failed g c =
    passed_on _ _ _ c.from_residual-in_err-go_by.ensures.1 (
      c.now-now.result,
      c.now-now.ensures,
      inr (
        c.time_out.new.node,
        c.in_ok-late.late,
        c.in_ok-late.ensures.ok,
        rw c.has_happened-happened.ensures at c.in_err-go_by.ensures.failed,
      ),
    )

pub returns-in_err-late-clause-moves : goal.returns-in_err-late-clause-moves
returns-in_err-late-clause-moves g c =
    stopped_late g.J.Journal.write_fails _ _ _ _ _ _ c.in_err-late.ensures.err

pub returns-in_err-go_by-clause-moves : goal.returns-in_err-go_by-clause-moves
returns-in_err-go_by-clause-moves g c =
    moves_then _ _ _ _ _ _ (times_moved _ _ _ _ _ _ c.in_ok-late.ensures.ok) c.go_by.ensures.moves

pub returns-clause-moves : goal.returns-clause-moves
returns-clause-moves g c =
    moves_then _ _ _ _ _ _ (times_moved _ _ _ _ _ _ c.in_ok-late.ensures.ok) c.go_by.ensures.moves

pub returns-in_err-late-clause-watches : goal.returns-in_err-late-clause-watches
returns-in_err-late-clause-watches g c =
    still_same (g.T.Timer.says c.args.timer.now) _ _ _ _
    (moved_later _ _ _ _
    (stopped_late g.J.Journal.write_fails _ _ _ _ (g.K.Kids.ledger c.args.server.now.kids) _ c.in_err-late.ensures.err))
    refl

pub returns-in_err-go_by-clause-watches : goal.returns-in_err-go_by-clause-watches
returns-in_err-go_by-clause-watches g c =
    let s : Standing = (between g.K.Kids.ledger g.K.Kids.failures c.args.server.now).standing in
    let m : Standing = record s {
      course = course c.time_out.new.node
          (children_state (g.K.Kids.ledger c.args.server.now.kids) (g.K.Kids.failures c.args.server.now.kids));
    } in
    still_then (g.T.Timer.says c.args.timer.now) s m
    (between g.K.Kids.ledger g.K.Kids.failures c.go_by.new.server).standing
    (still_same (g.T.Timer.says c.args.timer.now) _ _ _ _ (moved_later _ _ _ _ (times_moved _ _ _ _ (g.K.Kids.ledger c.args.server.now.kids) _ c.in_ok-late.ensures.ok)) refl)
    c.go_by.ensures.watches

pub returns-clause-watches : goal.returns-clause-watches
returns-clause-watches g c =
    let s : Standing = (between g.K.Kids.ledger g.K.Kids.failures c.args.server.now).standing in
    let m : Standing = record s {
      course = course c.time_out.new.node
          (children_state (g.K.Kids.ledger c.args.server.now.kids) (g.K.Kids.failures c.args.server.now.kids));
    } in
    still_then (g.T.Timer.says c.args.timer.now) s m
    (between g.K.Kids.ledger g.K.Kids.failures c.go_by.new.server).standing
    (still_same (g.T.Timer.says c.args.timer.now) _ _ _ _ (moved_later _ _ _ _ (times_moved _ _ _ _ (g.K.Kids.ledger c.args.server.now.kids) _ c.in_ok-late.ensures.ok)) refl)
    c.go_by.ensures.watches

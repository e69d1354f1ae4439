use Rattle.std.proofs.Common.{inl, inr, refl}
use Rattle.smf_script.proofs.Moves.{moves_then}
use Rattle.smf_edge.specs.Answers.{children_state}
use Rattle.smf_node.specs.Rounds.{course}
use Rattle.smf_server.specs.Turns.{Standing, between}
use Rattle.smf_server.proofs.Hears.{heard_moved, stopped_moved}
use Rattle.smf_server.proofs.TurnSteps.{moved_later}
use Rattle.smf_server.proofs.Watching.{still_same, still_then}
use Rattle.smf_watch.proofs.FaultExits.{passed_on}
use Rattle.smf_server.proofs.turns.pass.Goals as goal

pub returns-clause-passed : goal.returns-clause-passed
returns-clause-passed g c =
    record {
      heard = course c.hear_all.new.node
          (children_state (g.K.Kids.ledger c.hear_all.new.kids) (g.K.Kids.failures c.hear_all.new.kids));
      any = c.in_ok-any.any;
      hears = c.in_ok-any.ensures.heard;
      times = c.in_ok-time_out.ensures.timed;
    }

pub returns-in_err-any-clause-failed : goal.returns-in_err-any-clause-failed
returns-in_err-any-clause-failed g c = passed_on _ _ _ c.from_residual.ensures.1 (inl c.in_err-any.ensures.err)

pub returns-in_err-time_out-clause-failed : goal.returns-in_err-time_out-clause-failed
returns-in_err-time_out-clause-failed g c =
    passed_on _ _ _ c.from_residual-in_err-time_out.ensures.1
    (inr (
      course c.hear_all.new.node
          (children_state (g.K.Kids.ledger c.hear_all.new.kids) (g.K.Kids.failures c.hear_all.new.kids)),
      c.in_ok-any.any,
      c.in_ok-any.ensures.heard,
      c.in_err-time_out.ensures.failed,
    ))

pub returns-in_err-any-clause-moves : goal.returns-in_err-any-clause-moves
returns-in_err-any-clause-moves g c = stopped_moved g.K.Kids.skills _ _ _ c.in_err-any.ensures.err

pub returns-in_err-time_out-clause-moves : goal.returns-in_err-time_out-clause-moves
returns-in_err-time_out-clause-moves g c =
    moves_then _ _ _ _ _ _ (heard_moved g.K.Kids.skills _ _ _ c.in_ok-any.ensures.heard) c.time_out.ensures.moves

pub returns-clause-moves : goal.returns-clause-moves
returns-clause-moves g c =
    moves_then _ _ _ _ _ _ (heard_moved g.K.Kids.skills _ _ _ c.in_ok-any.ensures.heard) c.time_out.ensures.moves

pub returns-in_err-any-clause-watches : goal.returns-in_err-any-clause-watches
returns-in_err-any-clause-watches g c =
    still_same (g.T.Timer.says c.args.timer.now) _ _ _ _
    (moved_later _ _ _ _ (stopped_moved g.K.Kids.skills _ _ _ c.in_err-any.ensures.err)) refl

pub returns-in_err-time_out-clause-watches : goal.returns-in_err-time_out-clause-watches
returns-in_err-time_out-clause-watches g c =
    let s : Standing = (between g.K.Kids.ledger g.K.Kids.failures c.args.server.now).standing in
    let m : Standing = record s {
      course = course c.hear_all.new.node
          (children_state (g.K.Kids.ledger c.hear_all.new.kids) (g.K.Kids.failures c.hear_all.new.kids));
    } in
    still_then (g.T.Timer.says c.args.timer.now) s m
    (between g.K.Kids.ledger g.K.Kids.failures c.time_out.new.server).standing
    (still_same (g.T.Timer.says c.args.timer.now) _ _ _ _ (moved_later _ _ _ _ (heard_moved g.K.Kids.skills _ _ _ c.in_ok-any.ensures.heard)) refl)
    c.time_out.ensures.watches

pub returns-clause-watches : goal.returns-clause-watches
returns-clause-watches g c =
    let s : Standing = (between g.K.Kids.ledger g.K.Kids.failures c.args.server.now).standing in
    let m : Standing = record s {
      course = course c.hear_all.new.node
          (children_state (g.K.Kids.ledger c.hear_all.new.kids) (g.K.Kids.failures c.hear_all.new.kids));
    } in
    still_then (g.T.Timer.says c.args.timer.now) s m
    (between g.K.Kids.ledger g.K.Kids.failures c.time_out.new.server).standing
    (still_same (g.T.Timer.says c.args.timer.now) _ _ _ _ (moved_later _ _ _ _ (heard_moved g.K.Kids.skills _ _ _ c.in_ok-any.ensures.heard)) refl)
    c.time_out.ensures.watches

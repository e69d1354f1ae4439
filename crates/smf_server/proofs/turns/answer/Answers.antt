use Rattle.std.proofs.Common.{ap, refl}
use Rattle.smf_script.proofs.Agreement.{agree_moves}
use Rattle.smf_edge.specs.Answers.{children_state}
use Rattle.smf_node.specs.Rounds.{course}
use Rattle.smf_server.specs.Turns.{between}
use Rattle.smf_server.proofs.TurnSteps.{answered, answered_then, come_on, cut, moved_later}
use Rattle.smf_server.proofs.Watching.{still_same, still_then}
use Rattle.smf_watch.specs.Troubles.{noticed}
use Rattle.smf_watch.specs.declared.troubles.Troubles.{Troubles}
use Rattle.smf_watch.specs.declared.terms.Noted.{Noted}
use Rattle.smf_world.proofs.LaterWorlds.{later_then}
use Rattle.smf_server.proofs.turns.answer.Goals as goal

pub returns-in-Ok-go_if-clause-ok : goal.returns-in-Ok-go_if-clause-ok
returns-in-Ok-go_if-clause-ok g c =
    λ before came.
    answered g.K.Kids.skills _
    (record {
      request = c.args.request.now;
      text = c.run_script.new.writer.items;
      status = c.in-Ok.status;
      written = c.reply-is_written.result;
      held = c.run_script.new.node.world.now;
    }) before _ _ (between g.K.Kids.ledger g.K.Kids.failures c.args.server.now) _
    (course c.run_script.new.node
    (children_state (g.K.Kids.ledger c.run_script.new.kids) (g.K.Kids.failures c.run_script.new.kids)))
    c.wants_rounds-wanted.result came
    (rw c.deref.ensures.value at c.reply-is_written.ensures.passed)
    (rw c.new-text.ensures.items at c.in-Ok.ensures.ran, refl)
    (rw c.size_of-before.ensures at c.wants_rounds-wanted.ensures) c.in-Ok-go_if.ensures.gone
    (ap (λ (e : Troubles). e.looked) c.go_if.ensures.kept)
    (ap noticed c.go_if.ensures.kept)
    (ap (λ (n : Noted). n.size) c.go_if.ensures.noted)

pub returns-in-Ok-clause-err : goal.returns-in-Ok-clause-err
returns-in-Ok-clause-err g c =
    λ before came.
    answered_then g.K.Kids.skills _ g.J.Journal.write_fails
    (record {
      request = c.args.request.now;
      text = c.run_script.new.writer.items;
      status = c.in-Ok.status;
      written = c.reply-is_written.result;
      held = c.run_script.new.node.world.now;
    }) before _ _ (between g.K.Kids.ledger g.K.Kids.failures c.args.server.now)
    (course c.run_script.new.node
    (children_state (g.K.Kids.ledger c.run_script.new.kids) (g.K.Kids.failures c.run_script.new.kids))) _ _ came
    (rw c.deref.ensures.value at c.reply-is_written.ensures.passed)
    (rw c.new-text.ensures.items at c.in-Ok.ensures.ran, refl) c.in-Err-go_if.ensures.failed.1
    (come_on _ _ _
    (later_then _ _ _ c.run_script.ensures.later (moved_later _ _ _ _ c.go_if.ensures.moves))
    (still_then (g.T.Timer.says c.args.timer.now)
    (between g.K.Kids.ledger g.K.Kids.failures c.args.server.now).standing
    (record (between g.K.Kids.ledger g.K.Kids.failures c.args.server.now).standing {
      course = course c.run_script.new.node
          (children_state (g.K.Kids.ledger c.run_script.new.kids) (g.K.Kids.failures c.run_script.new.kids));
    })
    (between g.K.Kids.ledger g.K.Kids.failures c.go_if.new.server).standing
    (still_same _ _ _ _ _ c.run_script.ensures.later refl) c.go_if.ensures.watches)
    (ap (λ (e : Troubles). e.looked) c.go_if.ensures.kept)
    (ap noticed c.go_if.ensures.kept)
    (ap (λ (n : Noted). n.size) c.go_if.ensures.noted))
    (λ b agrees. agree_moves {b = b} _ _ _ _ c.go_if.ensures.moves (c.in-Ok.ensures.agrees b agrees))

pub returns-clause-err : goal.returns-clause-err
returns-clause-err g c =
    λ before came.
    cut g.K.Kids.skills _ g.J.Journal.write_fails _ c.args.request.now c.run_script.new.writer.items before _ _
    (between g.K.Kids.ledger g.K.Kids.failures c.args.server.now) _ came c.reply_fault.ensures.told
    (rw c.new-text.ensures.items at c.in-Err.ensures.err)
    (come_on _ _ _ c.run_script.ensures.later (still_same _ _ _ _ _ c.run_script.ensures.later refl) refl refl refl)
    (λ b agrees. c.in-Err.ensures.dropped b agrees)

pub returns-in-Ok-go_if-clause-agrees : goal.returns-in-Ok-go_if-clause-agrees
returns-in-Ok-go_if-clause-agrees g c =
    λ b agrees. agree_moves {b = b} _ _ _ _ c.go_if.ensures.moves (c.in-Ok.ensures.agrees b agrees)

pub returns-in-Ok-go_if-clause-later : goal.returns-in-Ok-go_if-clause-later
returns-in-Ok-go_if-clause-later g c =
    later_then _ _ _ c.run_script.ensures.later (moved_later _ _ _ _ c.go_if.ensures.moves)

pub returns-in-Ok-clause-later : goal.returns-in-Ok-clause-later
returns-in-Ok-clause-later g c = later_then _ _ _ c.run_script.ensures.later (moved_later _ _ _ _ c.go_if.ensures.moves)

use Rattle.std.proofs.Common.{ap, inl, inr, ◌∙◌}
use Rattle.smf_script.proofs.Agreement.{agree_moves}
use Rattle.smf_server.specs.Turns.{between}
use Rattle.smf_server.proofs.Marked.{look_fails_after, looks_after}
use Rattle.smf_server.proofs.TurnSteps.{moved_later}
use Rattle.smf_server.proofs.Watching.{still_then}
use Rattle.smf_watch.proofs.FaultExits.{on_fault, passed_on}
use Rattle.smf_watch.specs.Troubles.{noticed}
use Rattle.smf_watch.specs.declared.troubles.Troubles.{Troubles}
use Rattle.smf_watch.specs.declared.terms.Noted.{Noted}
use Rattle.smf_world.proofs.LaterWorlds.{later_then}
use Rattle.smf_server.proofs.turns.tick.Goals as goal

pub returns-clause-ticked : goal.returns-clause-ticked
returns-clause-ticked g c =
    record {
      gone = (between g.K.Kids.ledger g.K.Kids.failures c.pass.new.server).standing;
      passes = c.in_ok-pass.ensures.passed;
      looks =
          looks_after (g.T.Timer.says c.args.timer.now)
          (between g.K.Kids.ledger g.K.Kids.failures c.args.server.now)
          (between g.K.Kids.ledger g.K.Kids.failures c.pass.new.server)
          (between g.K.Kids.ledger g.K.Kids.failures c.look_if.new.server)
          c.in_ok-lines.lines (ap (λ (e : Troubles). e.looked) c.pass.ensures.kept)
          (ap noticed c.pass.ensures.kept) (ap (λ (n : Noted). n.size) c.pass.ensures.noted)
          c.in_ok-lines.ensures.looked;
    }

pub returns-in_err-pass-clause-failed : goal.returns-in_err-pass-clause-failed
returns-in_err-pass-clause-failed g c = passed_on _ _ _ c.from_residual.ensures.1 (inl c.in_err-pass.ensures.failed)

pub returns-in_err-lines-clause-failed : goal.returns-in_err-lines-clause-failed
returns-in_err-lines-clause-failed g c =
    passed_on _ _ _ c.from_residual-in_err-lines.ensures.1
    (inr (
      (between g.K.Kids.ledger g.K.Kids.failures c.pass.new.server).standing,
      c.in_ok-pass.ensures.passed,
      look_fails_after (g.T.Timer.says c.args.timer.now) g.J.Journal.write_fails
          (between g.K.Kids.ledger g.K.Kids.failures c.args.server.now)
          (between g.K.Kids.ledger g.K.Kids.failures c.pass.new.server) _ _
          (ap (λ (e : Troubles). e.looked) c.pass.ensures.kept)
          (ap noticed c.pass.ensures.kept) (ap (λ (n : Noted). n.size) c.pass.ensures.noted)
          c.in_err-lines.ensures.failed,
    ))

pub returns-in_err-pass-clause-agrees : goal.returns-in_err-pass-clause-agrees
returns-in_err-pass-clause-agrees g c = λ b a. agree_moves {b = b} _ _ _ _ c.pass.ensures.moves a

pub returns-in_err-lines-clause-agrees : goal.returns-in_err-lines-clause-agrees
returns-in_err-lines-clause-agrees g c =
    λ b a. c.look_if.ensures.agrees b (agree_moves {b = b} _ _ _ _ c.pass.ensures.moves a)

pub returns-clause-agrees : goal.returns-clause-agrees
returns-clause-agrees g c =
    λ b a. c.look_if.ensures.agrees b (agree_moves {b = b} _ _ _ _ c.pass.ensures.moves a)

pub returns-in_err-pass-clause-later : goal.returns-in_err-pass-clause-later
returns-in_err-pass-clause-later g c = moved_later _ _ _ _ c.pass.ensures.moves

pub returns-in_err-lines-clause-later : goal.returns-in_err-lines-clause-later
returns-in_err-lines-clause-later g c =
    later_then _ _ _ (moved_later _ _ _ _ c.pass.ensures.moves) c.look_if.ensures.later

pub returns-clause-later : goal.returns-clause-later
returns-clause-later g c = later_then _ _ _ (moved_later _ _ _ _ c.pass.ensures.moves) c.look_if.ensures.later

pub returns-in_err-lines-clause-watches : goal.returns-in_err-lines-clause-watches
returns-in_err-lines-clause-watches g c =
    still_then (g.T.Timer.says c.args.timer.now) (between g.K.Kids.ledger g.K.Kids.failures c.args.server.now).standing
    (between g.K.Kids.ledger g.K.Kids.failures c.pass.new.server).standing
    (between g.K.Kids.ledger g.K.Kids.failures c.look_if.new.server).standing c.pass.ensures.watches
    c.look_if.ensures.watches

pub returns-clause-watches : goal.returns-clause-watches
returns-clause-watches g c =
    still_then (g.T.Timer.says c.args.timer.now) (between g.K.Kids.ledger g.K.Kids.failures c.args.server.now).standing
    (between g.K.Kids.ledger g.K.Kids.failures c.pass.new.server).standing
    (between g.K.Kids.ledger g.K.Kids.failures c.look_if.new.server).standing c.pass.ensures.watches
    c.look_if.ensures.watches

pub returns-in_err-lines-clause-kept : goal.returns-in_err-lines-clause-kept
returns-in_err-lines-clause-kept g c = on_fault _ _ (c.in_err-lines.ensures.kept ∙ c.pass.ensures.kept)

use Rattle.smf_script.proofs.Agreement.{agree_moves}
use Rattle.smf_script.proofs.Moved.{drive_moved}
use Rattle.smf_script.proofs.Moves.{driven_moved}
use Rattle.smf_edge.specs.Answers.{children_state}
use Rattle.smf_node.specs.Rounds.{course}
use Rattle.smf_script.proofs.rounds.drive.Goals as goal

pub returns-clause-moves : goal.returns-clause-moves
returns-clause-moves g c =
    drive_moved g.K.Kids.skills g.J.Journal.write_fails c.args.rounds
    (course c.args.node.now (children_state (g.K.Kids.ledger c.args.kids.now) (g.K.Kids.failures c.args.kids.now)))
    (course c.drive.new.self
    (children_state (g.K.Kids.ledger c.drive.new.runner) (g.K.Kids.failures c.drive.new.runner))) c.drive.result
    c.drive.ensures.ok c.drive.ensures.err

pub returns-clause-agrees : goal.returns-clause-agrees
returns-clause-agrees g c =
    λ b. agree_moves {b = b} c.args.node.now.world c.drive.new.self.world (g.K.Kids.ledger c.args.kids.now)
    (g.K.Kids.ledger c.drive.new.runner) (returns-clause-moves g c)

pub returns-clause-driven : goal.returns-clause-driven
returns-clause-driven g c = driven_moved _ _ _ _ (returns-clause-moves g c)

use Rattle.smf_node.proofs.QuietRounds.{memory_after, round_kept, rounds_more, rounds_quiet}
use Rattle.smf_node.proofs.node.Node.drive_rounds.Goals as goal

pub returns-in_err-is_settled-clause-err : goal.returns-in_err-is_settled-clause-err
returns-in_err-is_settled-clause-err g c =
    memory_after _ g.J.Journal.write_fails _ _ _ _ _ _
    _ _ c.loop.invariant c.loop-test.true c.in_ok-round.ensures.ok
    c.is_settled.ensures.same c.from_residual-in_err-is_settled.ensures.1

pub returns-then-branch-clause-ok : goal.returns-then-branch-clause-ok
returns-then-branch-clause-ok g c =
    rounds_quiet _ _ _ _ _ _ _
    _ _ c.loop.invariant c.loop-test.true
    (round_kept _ _ _ _ _ c.in_ok-round.ensures.ok c.is_settled.ensures.same) c.in_ok-is_settled.ensures.quiet
    c.if-branch.true

pub loop-preserved : goal.loop-preserved
loop-preserved g c =
    rounds_more _ _ _ _ _ _ _
    _ _ c.loop.invariant c.loop-test.true
    (round_kept _ _ _ _ _ c.in_ok-round.ensures.ok c.is_settled.ensures.same) c.in_ok-is_settled.ensures.quiet
    c.if-branch.false

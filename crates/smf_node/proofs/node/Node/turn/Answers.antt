use Rattle.std.proofs.Common.{◌∙◌}
use Rattle.smf_node.proofs.SkippedTurns.{turn_failed, turn_taken}
use Rattle.smf_node.proofs.node.Node.turn.Goals as goal

pub returns-clause-ok : goal.returns-clause-ok
returns-clause-ok g c =
    turn_taken _ _ _ _ _ _ _ c.in_ok-enter.ensures.ok c.in_ok-deeds.ensures.ordered
    (c.deref.ensures.value ∙ c.in_ok-deeds.ensures.deeds) c.go_all.ensures.ok

pub returns-clause-err : goal.returns-clause-err
returns-clause-err g c =
    turn_failed _ g.J.Journal.write_fails _ _ _ _ _ _ c.in_ok-enter.ensures.ok c.in_ok-deeds.ensures.ordered
    (c.deref.ensures.value ∙ c.in_ok-deeds.ensures.deeds) c.go_all.ensures.err

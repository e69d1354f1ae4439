use Rattle.std.proofs.Common.{Bool, false, drop}
use Rattle.smf_edge.specs.Answers.{Seen, children_state}
use Rattle.smf_script.specs.Ends.{AreAsked}
use Rattle.smf_script.proofs.ends.end_each.Given as goal

abbrev pub invariant-loop-id : goal.invariant-loop-id
invariant-loop-id g l =
    (lacked : Bool) (after : Seen)
    → AreAsked g.K.Kids.skills l.lacked lacked (drop l.id-index l.contracts)
    (children_state (g.K.Kids.ledger l.kids) (g.K.Kids.failures l.kids)) after
    → AreAsked g.K.Kids.skills false lacked l.contracts
    (children_state (g.K.Kids.ledger l.fn.kids) (g.K.Kids.failures l.fn.kids)) after

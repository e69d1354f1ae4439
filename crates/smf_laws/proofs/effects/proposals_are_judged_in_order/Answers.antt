use Rattle.smf_laws.proofs.Judgments.{is_judged, of_no_such}
use Rattle.smf_laws.proofs.effects.proposals_are_judged_in_order.Goals as goal

pub returns-clause-no_such : goal.returns-clause-no_such
returns-clause-no_such c = of_no_such

pub returns-clause-order : goal.returns-clause-order
returns-clause-order c = is_judged

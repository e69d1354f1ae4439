use Rattle.smf_model.proofs.LawNumbers.{asked_numbers, asked_refused}
use Rattle.smf_model.proofs.plain.Plain.outcome_of_command.Goals as goal

pub returns-clause-refused : goal.returns-clause-refused
returns-clause-refused g c = asked_refused _ _ c.in_ok-outcome.outcome c.in_ok-outcome.ensures

pub returns-clause-numbered : goal.returns-clause-numbered
returns-clause-numbered g c =
    rw (← c.self.view_is)
    (asked_numbers _ _ c.in_ok-outcome.outcome (rw c.over.ensures at c.in_ok-outcome.ensures) c.self.invariant.1)

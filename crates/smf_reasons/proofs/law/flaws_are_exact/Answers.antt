use Rattle.smf_reasons.proofs.LawFlaws.{fine, hold, silent}
use Rattle.smf_reasons.proofs.law.flaws_are_exact.Goals as goal

pub returns-clause-silent : goal.returns-clause-silent
returns-clause-silent c = silent

pub returns-clause-fine : goal.returns-clause-fine
returns-clause-fine c = fine c.cycles_are_lists.ensures.found

pub returns-clause-hold : goal.returns-clause-hold
returns-clause-hold c = hold

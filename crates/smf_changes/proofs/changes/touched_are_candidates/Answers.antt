use Rattle.smf_changes.proofs.Touches.{touched_found, touched_named, touched_within}
use Rattle.smf_changes.proofs.changes.touched_are_candidates.Goals as goal

pub returns-clause-within : goal.returns-clause-within
returns-clause-within c = touched_within

pub returns-clause-found : goal.returns-clause-found
returns-clause-found c = touched_found

pub returns-clause-own : goal.returns-clause-own
returns-clause-own c = touched_named

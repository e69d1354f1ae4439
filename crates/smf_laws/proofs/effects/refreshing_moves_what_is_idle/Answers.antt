use Rattle.smf_laws.proofs.Refreshes.{after_refresh, not_moved}
use Rattle.smf_laws.proofs.effects.refreshing_moves_what_is_idle.Goals as goal

pub returns-clause-done : goal.returns-clause-done
returns-clause-done c = after_refresh

pub returns-clause-in_use : goal.returns-clause-in_use
returns-clause-in_use c = not_moved

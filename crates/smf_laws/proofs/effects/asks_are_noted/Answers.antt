use Rattle.smf_laws.proofs.Notes.{clear_noted, mark_noted, restart_noted}
use Rattle.smf_laws.proofs.effects.asks_are_noted.Goals as goal

pub returns-clause-restart : goal.returns-clause-restart
returns-clause-restart c = restart_noted

pub returns-clause-clear : goal.returns-clause-clear
returns-clause-clear c = clear_noted

pub returns-clause-mark : goal.returns-clause-mark
returns-clause-mark c = mark_noted

use Rattle.smf_world.proofs.LaterWorlds.{reached_later}
use Rattle.smf_safety.proofs.Safely.{reached_safe, run_safe}
use Rattle.smf_safety.proofs.law.whatever_happens_is_safe.Goals as goal

pub returns-clause-always : goal.returns-clause-always
returns-clause-always c = run_safe

pub returns-clause-reached : goal.returns-clause-reached
returns-clause-reached c = reached_safe

pub returns-clause-later : goal.returns-clause-later
returns-clause-later c = reached_later

use Rattle.smf_world.proofs.LawStops.{stop_told, stop_happened}
use Rattle.smf_world.proofs.law.rows_tell_what_stops.Goals as goal

pub returns-clause-told : goal.returns-clause-told
returns-clause-told c = stop_told

pub returns-clause-happened : goal.returns-clause-happened
returns-clause-happened c = stop_happened

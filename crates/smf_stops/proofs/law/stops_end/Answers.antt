use Rattle.smf_stops.proofs.Orders.{some_free}
use Rattle.smf_stops.proofs.Plans.{all_once}
use Rattle.smf_stops.proofs.law.stops_end.Goals as goal

pub returns-clause-some : goal.returns-clause-some
returns-clause-some c = some_free

pub returns-clause-all : goal.returns-clause-all
returns-clause-all c = all_once

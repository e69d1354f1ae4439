use Rattle.smf_stops.proofs.Orders.{all_enabled, asked_once}
use Rattle.smf_stops.proofs.law.stops_are_asked_once.Goals as goal

pub returns-clause-enabled : goal.returns-clause-enabled
returns-clause-enabled c = all_enabled

pub returns-clause-once : goal.returns-clause-once
returns-clause-once c = asked_once

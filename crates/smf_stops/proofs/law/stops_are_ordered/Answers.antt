use Rattle.smf_stops.proofs.Orders.{ordered}
use Rattle.smf_stops.proofs.law.stops_are_ordered.Goals as goal

pub returns : goal.returns
returns c = ordered

use Rattle.std.proofs.Common.{length}
use Rattle.smf_stops.proofs.Plans.{all_ordered}
use Rattle.smf_stops.proofs.law.plan_is_ordered.Goals as goal

pub returns : goal.returns
returns c = λ ms. all_ordered (length ms) ms

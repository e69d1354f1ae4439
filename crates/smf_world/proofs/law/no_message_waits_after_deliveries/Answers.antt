use Rattle.smf_world.proofs.Ranked.{none_waits}
use Rattle.smf_world.proofs.law.no_message_waits_after_deliveries.Goals as goal

pub returns : goal.returns
returns c = none_waits

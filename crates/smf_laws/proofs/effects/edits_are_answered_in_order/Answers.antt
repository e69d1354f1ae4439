use Rattle.smf_laws.proofs.Denials.{is_answered}
use Rattle.smf_laws.proofs.effects.edits_are_answered_in_order.Goals as goal

pub returns : goal.returns
returns c = is_answered

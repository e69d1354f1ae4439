use Rattle.std.proofs.Common.{◌∙◌, ap}
use Rattle.smf_node.proofs.BootLimits.{next_one, past_none, past_some}
use Rattle.smf_node.proofs.node.is_past_boot.Goals as goal

pub returns-in-None : goal.returns-in-None
returns-in-None g c =
    past_none c.args.repository.now.held c.next.result (c.next.ensures ∙ ap next_one c.revision.ensures) c.in-None.is

pub returns-in-Some : goal.returns-in-Some
returns-in-Some g c =
    past_some c.args.repository.now.held c.next.result _ c.may_not_boot.result
    (c.next.ensures ∙ ap next_one c.revision.ensures) c.in-Some.is c.may_not_boot.ensures

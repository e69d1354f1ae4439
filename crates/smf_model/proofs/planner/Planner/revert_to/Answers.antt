use Rattle.std.proofs.Common.{sym, ◌∙◌}
use Rattle.smf_model.proofs.OwnersPut.{past_refused, within_most}
use Rattle.smf_model.proofs.planner.Planner.revert_to.Goals as goal

pub returns-then-are_past_most : goal.returns-then-are_past_most
returns-then-are_past_most c =
    rw (past_refused c.args.self.now c.args.instance.now c.args.service_groups c.args.instance_groups
    (sym c.are_past_most.ensures ∙ c.if-are_past_most.true)) at c.refusal_with.ensures

pub returns : goal.returns
returns c =
    rw (← within_most c.args.self.now c.args.instance.now c.args.service_groups c.args.instance_groups
    (sym c.are_past_most.ensures ∙ c.if-are_past_most.false)) c.revert_within.ensures

use Rattle.std.proofs.Common.{ap, ◌∙◌}
use Rattle.smf_export.proofs.Looked.{both_services}
use Rattle.smf_export.proofs.comparison.Comparison.has_same_services.Goals as goal

pub returns : goal.returns
returns c =
    both_services c.args.self.now c.services.result.now c.services-2.result.now c.in_ok-are_same_services.field-0 _
    c.if-not-branch.false (c.services.ensures ∙ ap (λ h. h.one.services) c.self.view_is)
    (c.services-2.ensures ∙ ap (λ h. h.other.services) c.self.view_is) c.in_ok-are_same_services.ensures
    c.are_same_services-2.ensures

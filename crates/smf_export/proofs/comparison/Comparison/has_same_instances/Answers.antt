use Rattle.std.proofs.Common.{ap, ◌∙◌}
use Rattle.smf_export.proofs.Looked.{both_instances}
use Rattle.smf_export.proofs.comparison.Comparison.has_same_instances.Goals as goal

pub returns : goal.returns
returns c =
    both_instances c.args.self.now c.as_slice.result.now c.as_slice-2.result.now c.in_ok-are_same_instances.field-0 _
    c.if-not-branch.false (c.as_slice.ensures.all ∙ c.names.ensures ∙ ap (λ h. h.one.names) c.self.view_is)
    (c.as_slice-2.ensures.all ∙ c.names-2.ensures ∙ ap (λ h. h.other.names) c.self.view_is)
    c.in_ok-are_same_instances.ensures c.are_same_instances-2.ensures

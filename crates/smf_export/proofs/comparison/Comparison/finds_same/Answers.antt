use Rattle.smf_export.proofs.Looked.{both_parts, not_services}
use Rattle.smf_export.proofs.comparison.Comparison.finds_same.Goals as goal

pub returns-then-not-branch : goal.returns-then-not-branch
returns-then-not-branch c =
    not_services c.args.self.now c.in_ok-has_same_services.field-0 c.if-not-branch.true c.in_ok-has_same_services.ensures

pub returns : goal.returns
returns c =
    both_parts c.args.self.now c.in_ok-has_same_services.field-0 _ c.if-not-branch.false
    c.in_ok-has_same_services.ensures c.has_same_instances.ensures

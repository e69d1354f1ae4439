use Rattle.std.proofs.Common.{true, false, sym, ◌∙◌}
use Rattle.smf_model.proofs.Kept.{kept_some}
use Rattle.smf_model.proofs.boot_changes.kept_of_name.Goals as goal

pub returns-then-is_non_persistent : goal.returns-then-is_non_persistent
returns-then-is_non_persistent c =
    kept_some _ _ c.in-Some.group.now true c.as_slice-ordered.ensures.rises c.in-Some.ensures
    (sym c.is_non_persistent.ensures ∙ c.if-is_non_persistent.true)

pub returns-else-is_non_persistent : goal.returns-else-is_non_persistent
returns-else-is_non_persistent c =
    kept_some _ _ c.in-Some.group.now false c.as_slice-ordered.ensures.rises c.in-Some.ensures
    (sym c.is_non_persistent.ensures ∙ c.if-is_non_persistent.false)

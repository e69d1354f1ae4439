use Rattle.std.proofs.Common.{sym, ◌∙◌}
use Rattle.smf_export.proofs.Looked.{kept_by}
use Rattle.smf_export.proofs.difference.keeps_instances.Goals as goal

pub returns : goal.returns
returns c =
    λ kept. kept_by c.args.before.now c.args.after.now c.as_slice.result.now (c.as_slice.ensures.all ∙ c.names.ensures)
    (sym c.are_kept.ensures ∙ kept)

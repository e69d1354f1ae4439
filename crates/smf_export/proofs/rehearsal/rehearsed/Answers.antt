use Rattle.std.proofs.Common.{◌∙◌}
use Rattle.smf_export.proofs.Tried.{run_of}
use Rattle.smf_export.proofs.rehearsal.rehearsed.Goals as goal

pub returns-in-Ok-clause-ran : goal.returns-in-Ok-clause-ran
returns-in-Ok-clause-ran c =
    run_of c.args.before.now c.over-repository.result.held _ c.in_ok-tables_as_stored-in-Ok.field-0 c.args.lines.now
    c.as_bytes-reader.result.now _ _ _ _ c.in-Ok.status (c.over-repository.ensures.held ∙ c.in_ok-clone.ensures.cases)
    c.as_bytes-reader.ensures.value c.in-Ok.ensures.ok c.if-status-ne0.false c.in_ok-tables_as_stored-in-Ok.ensures.exact

use Rattle.smf_store.specs.Judged.{verdict_on_rows}
use Rattle.smf_store.proofs.Verdicts.{broken_none}
use Rattle.smf_store.proofs.judgements.find_broken.Goals as goal

pub returns-in-Ok : goal.returns-in-Ok
returns-in-Ok c =
    broken_none c.args.other c.in-Ok.field-0.tables (verdict_on_rows c.args.rows.now) c.in-Ok.ensures.exact

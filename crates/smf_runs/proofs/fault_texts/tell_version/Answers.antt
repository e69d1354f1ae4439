use Rattle.std.proofs.Common.{rules}
use Rattle.smf_runs.proofs.Told.{told_version}
use Rattle.smf_runs.proofs.fault_texts.tell_version.Goals as goal

pub returns-in-Ok-clause-told : goal.returns-in-Ok-clause-told
returns-in-Ok-clause-told g c =
    told_version _ _ _ c.as_str.result.now c.args.version.now (search rules) c.tell.ensures.told

use Rattle.smf_runs.proofs.Told.{told_of}
use Rattle.smf_runs.proofs.fault_texts.tell_open.Goals as goal

pub returns-in-Database-clause-told : goal.returns-in-Database-clause-told
returns-in-Database-clause-told g c = told_of _ _ _ _ _ c.in-Database.is c.tell-in-Database.ensures.told

pub returns-in-Version-clause-told : goal.returns-in-Version-clause-told
returns-in-Version-clause-told g c = told_of _ _ _ _ _ c.in-Version.is c.tell_version.ensures.told

pub returns-in-TooManyInstances-clause-told : goal.returns-in-TooManyInstances-clause-told
returns-in-TooManyInstances-clause-told g c =
    told_of _ _ _ _ _ c.in-TooManyInstances.is c.tell-in-TooManyInstances.ensures.told

use Rattle.smf_runs.proofs.copies.open_files.Goals as goal

pub returns-in-Ok-clause-found : goal.returns-in-Ok-clause-found
returns-in-Ok-clause-found g c = λ clean.
    record {
      holds = (c.in-Ok.ensures.found clean).holds;
      reads = (c.in-Ok.ensures.found clean).reads;
    }

pub returns-clause-err : goal.returns-clause-err
returns-clause-err g c =
    record {
      named = c.in-Err.ensures.named;
      left = c.in-Err.field-0-1;
      why = c.in-Err.ensures.cause;
    }

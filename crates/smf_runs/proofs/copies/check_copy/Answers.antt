use Rattle.smf_runs.proofs.copies.check_copy.Goals as goal

pub returns-in-Ok-clause-ok : goal.returns-in-Ok-clause-ok
returns-in-Ok-clause-ok g c = λ fine.
    record {
      conn = c.in-Ok.conn;
      after = c.in-Ok.conn;
      found = c.in-Ok.ensures.found;
      opened = c.in-Ok.ensures.opened;
      fresh = c.in-Ok.ensures.fresh;
      ran = c.check.ensures.ok fine;
    }

use Rattle.smf_runs.proofs.script_copies.serve_copy.Goals as goal

pub returns-in-Ok-clause-ok : goal.returns-in-Ok-clause-ok
returns-in-Ok-clause-ok g c = λ fine.
    record {
      conn = c.in-Ok.conn;
      after = (c.serve_out.ensures.ok fine).after;
      found = c.in-Ok.ensures.found;
      opened = c.in-Ok.ensures.opened;
      fresh = c.in-Ok.ensures.fresh;
      ran = (c.serve_out.ensures.ok fine).ran;
    }

pub returns-in-Ok-clause-fault : goal.returns-in-Ok-clause-fault
returns-in-Ok-clause-fault g c = λ faulted.
    record {
      conn = c.in-Ok.conn;
      after = (c.serve_out.ensures.fault faulted).after;
      found = c.in-Ok.ensures.found;
      opened = c.in-Ok.ensures.opened;
      fresh = c.in-Ok.ensures.fresh;
      ran = (c.serve_out.ensures.fault faulted).ran;
    }

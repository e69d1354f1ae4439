use Rattle.smf_runs.proofs.script_copies.serve_out.Goals as goal

pub returns-clause-ok : goal.returns-clause-ok
returns-clause-ok g c = λ fine.
    record {
      after = c.serve-status.result.conn;
      ran = c.serve-status.ensures.ok fine;
    }

pub returns-clause-fault : goal.returns-clause-fault
returns-clause-fault g c = λ faulted.
    record {
      after = c.serve-status.result.conn;
      ran = c.serve-status.ensures.fault faulted;
    }

use Rattle.std.proofs.Common.{sym, ◌∙◌}
use Rattle.smf_runs.proofs.Closes.{ended_after}
use Rattle.smf_runs.proofs.cfg.serve_cfg_file.Goals as goal

pub returns-clause-ok : goal.returns-clause-ok
returns-clause-ok g c = λ fine.
    record {
      after = c.serve_cfg-served.result.conn;
      done = rw (c.close.ensures.silent fine, ← c.close.ensures.ok fine)
          (c.serve_cfg-served.ensures.ok (λ e. fine (sym (c.close.ensures.ok fine) ∙ e)));
      copied = c.close.ensures.copied fine;
    }

pub returns-clause-fault : goal.returns-clause-fault
returns-clause-fault g c = λ three.
    ended_after _ _ _ c.serve_cfg-served.result.conn c.serve_cfg-served.result.status c.close.result.files _ _
    (λ other. (_, c.serve_cfg-served.ensures.ok other)) (λ faulted. c.serve_cfg-served.ensures.fault faulted)
    (c.close.ensures.fault three)

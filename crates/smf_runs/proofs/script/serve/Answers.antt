use Rattle.smf_runs.specs.Runs.IsEnded.{cut}
use Rattle.smf_runs.proofs.script.serve.Goals as goal

pub returns-in-Ok-clause-ok : goal.returns-in-Ok-clause-ok
returns-in-Ok-clause-ok g c = λ fine.
    record {
      held = c.in-Ok.repository.held;
      opened = c.in-Ok.ensures.opened;
      ran = rw c.release.ensures (c.serve_over-end.ensures.ok fine);
    }

pub returns-in-Ok-clause-fault : goal.returns-in-Ok-clause-fault
returns-in-Ok-clause-fault g c = λ faulted.
    cut c.in-Ok.repository.held c.in-Ok.ensures.opened (rw c.release.ensures (c.serve_over-end.ensures.fault faulted))

use Rattle.std.proofs.Common.{sym, subst}
use Rattle.smf_runs.specs.Cfgs.{IsLeft}
use Rattle.smf_runs.specs.Cfgs.IsEnded.{stopped}
use Rattle.smf_runs.proofs.cfg.serve_cfg.Goals as goal

pub returns-in-Ok-clause-ok : goal.returns-in-Ok-clause-ok
returns-in-Ok-clause-ok g c = λ fine.
    record {
      held = c.in-Ok.repository.held;
      opened = c.in-Ok.ensures.opened;
      left = c.serve_cfg-status.new.client.held;
      stands = subst (λ conn. IsLeft g.S.Store conn c.serve_cfg-status.new.client.held)
          (sym c.release-conn.ensures) c.into_journal.ensures.stands;
      ran = c.serve_cfg-status.ensures.ran fine;
    }

pub returns-in-Ok-clause-fault : goal.returns-in-Ok-clause-fault
returns-in-Ok-clause-fault g c = λ faulted.
    stopped c.in-Ok.repository.held c.serve_cfg-status.new.client.held c.in-Ok.ensures.opened
    (subst (λ conn. IsLeft g.S.Store conn c.serve_cfg-status.new.client.held)
    (sym c.release-conn.ensures) c.into_journal.ensures.stands)
    (c.serve_cfg-status.ensures.fault faulted)

use Rattle.smf_runs.proofs.Programs.{some_weaker}
use Rattle.smf_runs.proofs.copies.held_copy.Goals as goal

pub returns-in-Ok-clause-found : goal.returns-in-Ok-clause-found
returns-in-Ok-clause-found g c =
    some_weaker c.held.result _ _
    (λ held ran.
    record {
      conn = c.in-Ok.conn;
      after = c.in-Ok.conn;
      found = c.in-Ok.ensures.found;
      opened = c.in-Ok.ensures.opened;
      fresh = c.in-Ok.ensures.fresh;
      ran = ran;
    })
    c.held.ensures.found

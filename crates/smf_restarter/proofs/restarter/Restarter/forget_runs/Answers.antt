use Rattle.std.proofs.Common.{arith}
use Rattle.smf_restarter.proofs.PastRuns.{watched_kept}
use Rattle.smf_restarter.proofs.restarter.Restarter.forget_runs.Goals as goal

pub invariant_of-self : goal.invariant_of-self
invariant_of-self c =
    record {
      watched = rw c.keep_needed.ensures.kept (watched_kept _ _ _ c.self.invariant.watched);
      instances_room = c.self.invariant.instances_room;
      runs_room = omega (arith, c.self.invariant.runs_room, c.keep_needed.ensures.room);
      touched_room = c.self.invariant.touched_room;
    }

use Rattle.std.proofs.Common.{arith}
use Rattle.smf_restarter.proofs.RestlessList.{none_watched}
use Rattle.smf_restarter.proofs.restarter.Restarter.new.Goals as goal

pub invariant_of-result : goal.invariant_of-result
invariant_of-result c =
    record {
      watched = rw (c.new.ensures, c.new-3.ensures) (none_watched _);
      instances_room = omega arith;
      runs_room = omega arith;
      touched_room = omega arith;
    }

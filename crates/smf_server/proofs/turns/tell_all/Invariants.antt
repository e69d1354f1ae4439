use Rattle.std.proofs.Common.{◌≡◌, drop, map}
use Rattle.smf_edge.specs.Starts.{log_with}
use Rattle.smf_watch.specs.Traffic.{LeavesNoMore, Told}
use Rattle.smf_server.proofs.turns.tell_all.Given as goal

abbrev pub invariant-loop-line : goal.invariant-loop-line
invariant-loop-line g l = log_with (map Told (drop l.line-index l.lines)) (g.D.Desk.passed l.desk)
    ≡ log_with (map Told l.lines) (g.D.Desk.passed l.fn.desk)
    × LeavesNoMore (g.D.Desk.leaves l.fn.desk) (g.D.Desk.leaves l.desk)

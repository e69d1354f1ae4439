use Rattle.std.proofs.Common.{drop}
use Rattle.smf_dep.specs.Departures.{AllStayAway}
use Rattle.smf_dep.proofs.roll.all_stay_away.Given as goal

abbrev pub invariant-loop-change : goal.invariant-loop-change
invariant-loop-change l = AllStayAway (drop l.change-index l.changes) l.gone → AllStayAway l.changes l.gone

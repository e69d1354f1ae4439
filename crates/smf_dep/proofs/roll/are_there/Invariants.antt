use Rattle.std.proofs.Common.{drop}
use Rattle.smf_dep.specs.Departures.{AreThere}
use Rattle.smf_dep.proofs.roll.are_there.Given as goal

abbrev pub invariant-loop-change : goal.invariant-loop-change
invariant-loop-change l =
    AreThere (drop l.change-index l.changes) l.roll.numbers l.roll.gone → AreThere l.changes l.roll.numbers l.roll.gone

use Rattle.smf_sweep.specs.Sweeps.{Rounds}
use Rattle.smf_sweep.proofs.rounds.sweep.Given as goal

abbrev pub invariant-loop : goal.invariant-loop
invariant-loop g l = Rounds g.S.Survey.tells l.children l.counter l.fn.survey l.survey

use Rattle.std.proofs.Common.{drop}
use Rattle.smf_watch.proofs.Late.{HaveEnded}
use Rattle.smf_watch.proofs.watch.time_out_all.Given as goal

abbrev pub invariant-loop-due : goal.invariant-loop-due
invariant-loop-due g l = HaveEnded l.now l.dues (drop l.due-index l.dues) l.fn.node l.node l.any

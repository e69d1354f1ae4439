use Rattle.std.proofs.Common.{drop}
use Rattle.smf_watch.proofs.Remedied.{HaveDone}
use Rattle.smf_watch.proofs.remedies.remedy_all.Given as goal

abbrev pub invariant-loop-one : goal.invariant-loop-one
invariant-loop-one g l = HaveDone l.remedies (drop l.one-index l.remedies) l.fn.node l.node

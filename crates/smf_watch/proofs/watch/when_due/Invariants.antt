use Rattle.std.proofs.Common.{◌≡◌, drop}
use Rattle.smf_watch.specs.Watched.{when_due}
use Rattle.smf_watch.proofs.watch.when_due.Given as goal

abbrev pub invariant-loop-due : goal.invariant-loop-due
invariant-loop-due l = when_due (drop l.due-index l.dues) l.instance l.timed ≡ when_due l.dues l.instance l.timed

use Rattle.std.proofs.Common.{◌≡◌}
use Rattle.smf_watch.specs.Loops.{was_steady}
use Rattle.smf_watch.proofs.ends.was_steady.Given as goal

abbrev pub invariant-loop-place : goal.invariant-loop-place
invariant-loop-place l = was_steady l.trail l.instance l.state l.place ≡ was_steady l.trail l.instance l.state l.count

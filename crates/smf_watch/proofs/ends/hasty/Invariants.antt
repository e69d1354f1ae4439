use Rattle.std.proofs.Common.{◌≡◌, drop}
use Rattle.smf_watch.specs.Loops.{hasty, hasty_among}
use Rattle.smf_watch.proofs.ends.hasty.Given as goal

abbrev pub invariant-loop-end : goal.invariant-loop-end
invariant-loop-end g l =
    hasty_among l.repository.held l.ends l.found (drop l.end-index l.ends) ≡ hasty l.repository.held l.ends

use Rattle.std.proofs.Common.{◌≡◌, ◌++◌, drop}
use Rattle.smf_watch.specs.Loops.{lines_of}
use Rattle.smf_watch.proofs.remedies.lines_of.Given as goal

abbrev pub invariant-loop-number : goal.invariant-loop-number
invariant-loop-number g l = l.lines ++ lines_of l.node.world.now (drop l.number-index l.numbers)
    ≡ lines_of l.node.world.now l.numbers

use Rattle.std.proofs.Common.{arith}
use Rattle.smf_cycles.proofs.Descents.{rises_nowhere}
use Rattle.smf_cycles.proofs.ranks.never_rises.Goals as goal

pub returns : goal.returns
returns c =
    λ h. rises_nowhere c.args.edges.now c.args.ranks.now (λ k low. c.loop-place.invariant k (omega arith))

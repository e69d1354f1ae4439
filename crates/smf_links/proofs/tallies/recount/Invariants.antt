use Rattle.smf_links.specs.Blockage.{off_at, runs_at}
use Rattle.smf_links.specs.Stamps.{has_stamp}
use Rattle.smf_links.proofs.Shapes.{AreCountedTo}
use Rattle.smf_links.proofs.tallies.recount.Given as goal

abbrev pub invariant-loop-at : goal.invariant-loop-at
invariant-loop-at l = AreCountedTo (runs_at l.nodes) (off_at l.nodes) (has_stamp l.stamps) l.links l.at l.own

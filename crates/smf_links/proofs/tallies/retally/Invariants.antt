use Rattle.std.proofs.Common.{drop}
use Rattle.smf_links.specs.Wires.{IsTalliedBut}
use Rattle.smf_links.proofs.tallies.retally.Given as goal

abbrev pub invariant-loop-spot : goal.invariant-loop-spot
invariant-loop-spot l = IsTalliedBut l.nodes l.stamps (drop l.spot-index l.spots) l.tallies

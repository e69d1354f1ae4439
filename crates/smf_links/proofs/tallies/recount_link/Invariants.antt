use Rattle.smf_links.specs.Blockage.{off_at, runs_at}
use Rattle.smf_links.specs.Stamps.{has_stamp}
use Rattle.smf_links.specs.Tallies.{entity_of}
use Rattle.smf_links.proofs.Shapes.{IsCountedTo}
use Rattle.smf_links.proofs.tallies.recount_link.Given as goal

abbrev pub invariant-loop-number : goal.invariant-loop-number
invariant-loop-number l =
    IsCountedTo (entity_of (runs_at l.nodes) (off_at l.nodes) (has_stamp l.stamps)) l.cited l.fn.own l.at l.number
    l.own

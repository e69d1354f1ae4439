use Rattle.std.proofs.Common.{◌≡◌, ◌++◌, map, drop}
use Rattle.smf_links.specs.Blockage.{off_at, runs_at}
use Rattle.smf_links.specs.Stamps.{has_stamp}
use Rattle.smf_links.specs.Wires.{tally_of}
use Rattle.smf_links.proofs.tallies.tallies_of.Given as goal

abbrev pub invariant-loop-link : goal.invariant-loop-link
invariant-loop-link l =
    l.tallies.items ++ map (tally_of (runs_at l.nodes) (off_at l.nodes) (has_stamp l.stamps))
    (drop l.link-index l.links)
    ≡ map (tally_of (runs_at l.nodes) (off_at l.nodes) (has_stamp l.stamps)) l.links

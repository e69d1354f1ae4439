use Rattle.std.proofs.Common.{◌≡◌, ◌++◌, map, drop}
use Rattle.smf_links.specs.Blockage.{off_at, runs_at}
use Rattle.smf_links.specs.Stamps.{has_stamp}
use Rattle.smf_links.specs.Tallies.{entity_of}
use Rattle.smf_links.proofs.tallies.entities_of.Given as goal

abbrev pub invariant-loop-places : goal.invariant-loop-places
invariant-loop-places l =
    l.entities.items ++ map (entity_of (runs_at l.nodes) (off_at l.nodes) (has_stamp l.stamps))
    (drop l.places-index l.cited)
    ≡ map (entity_of (runs_at l.nodes) (off_at l.nodes) (has_stamp l.stamps)) l.cited

use Rattle.std.proofs.Common.{◌≡◌, drop}
use Rattle.std.specs.List.{list_all}
use Rattle.smf_links.specs.Blockage.{met_by, off_at, runs_at}
use Rattle.smf_links.specs.Stamps.{before}
use Rattle.smf_links.proofs.blockage.each_met.Given as goal

abbrev pub invariant-loop-at : goal.invariant-loop-at
invariant-loop-at l =
    list_all (met_by (runs_at l.nodes) (off_at l.nodes) (before l.stamps l.limit)) (drop l.at l.links)
    ≡ list_all (met_by (runs_at l.nodes) (off_at l.nodes) (before l.stamps l.limit)) l.links

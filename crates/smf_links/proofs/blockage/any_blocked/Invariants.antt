use Rattle.std.proofs.Common.{◌≡◌, drop}
use Rattle.std.specs.List.{list_any}
use Rattle.smf_links.specs.Blockage.{blocked_by, off_at, runs_at}
use Rattle.smf_links.specs.Stamps.{before}
use Rattle.smf_links.proofs.blockage.any_blocked.Given as goal

abbrev pub invariant-loop-at : goal.invariant-loop-at
invariant-loop-at l =
    list_any (blocked_by (runs_at l.nodes) (off_at l.nodes) (before l.stamps l.limit)) (drop l.at l.links)
    ≡ list_any (blocked_by (runs_at l.nodes) (off_at l.nodes) (before l.stamps l.limit)) l.links

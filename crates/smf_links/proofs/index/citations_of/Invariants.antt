use Rattle.std.proofs.Common.{◌≡◌, ◌+◌, drop}
use Rattle.smf_links.specs.Stamps.{citations}
use Rattle.smf_links.proofs.index.citations_of.Given as goal

abbrev pub invariant-loop-link : goal.invariant-loop-link
invariant-loop-link l = l.total + citations (drop l.link-index l.links) ≡ citations l.links

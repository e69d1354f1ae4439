use Rattle.std.proofs.Common.{◌+◌, ◌≤◌, drop}
use Rattle.smf_links.specs.Stamps.{Avoid, KeepsPlaces, citations, total}
use Rattle.smf_links.proofs.Citations.{Leads}
use Rattle.smf_links.proofs.index.note_links.Given as goal

abbrev pub invariant-loop-link : goal.invariant-loop-link
invariant-loop-link l = record {
  leads : Leads Avoid l.at (drop l.link-index l.links) l.links l.fn.citing.items l.citing.items;
  keeps : KeepsPlaces l.fn.citing.items l.citing.items;
  space : total l.citing.items + citations (drop l.link-index l.links) ≤ total l.fn.citing.items + citations l.links;
}

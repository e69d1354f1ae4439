use Rattle.std.proofs.Common.{◌+◌, ◌≤◌, drop}
use Rattle.smf_links.specs.Stamps.{AreOut, KeepsPlaces, total}
use Rattle.smf_links.proofs.Citations.{Leads}
use Rattle.smf_links.proofs.index.note_cited.Given as goal

abbrev pub invariant-loop-places : goal.invariant-loop-places
invariant-loop-places l = record {
  leads : Leads AreOut l.at (drop l.places-index l.cited) l.cited l.fn.citing.items l.citing.items;
  keeps : KeepsPlaces l.fn.citing.items l.citing.items;
  space : total l.citing.items + total (drop l.places-index l.cited) ≤ total l.fn.citing.items + total l.cited;
}

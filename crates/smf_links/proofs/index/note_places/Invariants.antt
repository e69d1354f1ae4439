use Rattle.std.proofs.Common.{◌+◌, ◌≤◌, drop}
use Rattle.smf_links.specs.Blockage.{IsOut}
use Rattle.smf_links.specs.Stamps.{KeepsPlaces, total}
use Rattle.smf_links.proofs.Citations.{Leads}
use Rattle.smf_links.proofs.index.note_places.Given as goal

abbrev pub invariant-loop-place : goal.invariant-loop-place
invariant-loop-place l = record {
  leads : Leads IsOut l.at (drop l.place-index l.places) l.places l.fn.citing.items l.citing.items;
  keeps : KeepsPlaces l.fn.citing.items l.citing.items;
  space : total l.citing.items ≤ total l.fn.citing.items + l.place-index;
}

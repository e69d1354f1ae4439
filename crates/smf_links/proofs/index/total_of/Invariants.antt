use Rattle.std.proofs.Common.{◌≡◌, ◌+◌, drop}
use Rattle.smf_links.specs.Stamps.{total}
use Rattle.smf_links.proofs.index.total_of.Given as goal

abbrev pub invariant-loop-places : goal.invariant-loop-places
invariant-loop-places l = l.total + total (drop l.places-index l.citing) ≡ total l.citing

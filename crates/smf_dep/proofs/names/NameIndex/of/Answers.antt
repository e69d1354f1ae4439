use Rattle.std.proofs.Common.{[], refl}
use Rattle.smf_dep.proofs.names.NameIndex.of.Goals as goal

pub returns : goal.returns
returns c = c.in_ok-join.ensures [] refl (c.no_places.ensures, c.no_places-2.ensures)

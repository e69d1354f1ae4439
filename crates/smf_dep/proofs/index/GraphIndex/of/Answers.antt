use Rattle.std.proofs.Common.{[], refl}
use Rattle.smf_dep.proofs.index.GraphIndex.of.Goals as goal

pub returns : goal.returns
returns c = record { names = c.in_ok-names.ensures; citers = c.in_ok-join.ensures [] refl c.new-citers.ensures }

use Rattle.std.proofs.lemmas.Slice.Eq.{bytes_eq-Decides, slice_eq-Decides}
use Rattle.smf_dep.proofs.dependency.are_same_names.Goals as goal

pub returns : goal.returns
returns c = λ e. (slice_eq-Decides bytes_eq-Decides c.args.names.now c.args.others.now c.eq.result c.eq.ensures).0 e

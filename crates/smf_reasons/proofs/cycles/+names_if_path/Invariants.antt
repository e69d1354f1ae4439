use Rattle.std.proofs.Common.{length}
use Rattle.smf_reasons.proofs.cycles.+names_if_path.Given as goal

abbrev pub decreases-names_if_path : goal.decreases-names_if_path
decreases-names_if_path l = length l.places.now

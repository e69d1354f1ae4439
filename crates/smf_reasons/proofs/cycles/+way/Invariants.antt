use Rattle.std.proofs.Common.{length}
use Rattle.smf_reasons.proofs.cycles.+way.Given as goal

abbrev pub decreases-way : goal.decreases-way
decreases-way l = length l.members.now

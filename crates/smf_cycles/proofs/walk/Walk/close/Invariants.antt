use Rattle.std.proofs.Common.{vec_len}
use Rattle.smf_cycles.proofs.walk.Walk.close.Given as goal

abbrev pub decreases-loop-place : goal.decreases-loop-place
decreases-loop-place l = vec_len l.self.open

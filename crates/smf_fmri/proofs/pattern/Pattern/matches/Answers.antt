use Rattle.smf_fmri.proofs.Patterns.{matches_decides}
use Rattle.smf_fmri.proofs.Whole.{read_is_pattern}
use Rattle.smf_fmri.proofs.pattern.Pattern.matches.Goals as goal

pub returns-clause-means : goal.returns-clause-means
returns-clause-means c = rw c.is_match.ensures (matches_decides c.args.self.now c.args.name.now)

pub returns-clause-spelled : goal.returns-clause-spelled
returns-clause-spelled c = read_is_pattern c.args.self.now c.args.self.now (rw c.self.view_is at c.self.invariant.reads)

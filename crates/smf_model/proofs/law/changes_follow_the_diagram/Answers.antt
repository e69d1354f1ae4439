use Rattle.smf_model.proofs.LawRows.{follows_next}
use Rattle.smf_model.proofs.law.changes_follow_the_diagram.Goals as goal

pub returns : goal.returns
returns c = follows_next

use Rattle.smf_admin.proofs.Matches.{found_answers}
use Rattle.smf_admin.proofs.law.answers_are_of_what_matches.Goals as goal

pub returns : goal.returns
returns c = found_answers

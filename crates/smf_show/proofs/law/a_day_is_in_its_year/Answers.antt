use Rattle.smf_show.proofs.Years.{in_its_year}
use Rattle.smf_show.proofs.law.a_day_is_in_its_year.Goals as goal

pub returns : goal.returns
returns c = in_its_year

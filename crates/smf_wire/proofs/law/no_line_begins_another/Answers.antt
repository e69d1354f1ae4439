use Rattle.smf_wire.proofs.Whole.{no_line_goes_on}
use Rattle.smf_wire.proofs.law.no_line_begins_another.Goals as goal

pub returns : goal.returns
returns c = λ m n tail has also. no_line_goes_on m n tail has.typed has.spelled also.typed also.spelled

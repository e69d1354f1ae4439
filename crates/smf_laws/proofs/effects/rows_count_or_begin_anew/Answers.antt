use Rattle.smf_laws.proofs.RowResets.{begins_or_stays}
use Rattle.smf_laws.proofs.effects.rows_count_or_begin_anew.Goals as goal

pub returns : goal.returns
returns c = begins_or_stays

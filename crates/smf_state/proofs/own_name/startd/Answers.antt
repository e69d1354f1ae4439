use Rattle.smf_state.proofs.OwnName.{startd_is_instance}
use Rattle.smf_state.proofs.own_name.startd.Goals as goal

pub from_valid_text-requires : goal.from_valid_text-requires
from_valid_text-requires c = startd_is_instance

-- svc.startd's own name is one.
use Rattle.std.proofs.Common.{refl}
use Rattle.smf_fmri.specs.Name.{name_of_text, strip}
use Rattle.smf_fmri.specs.Patterns.{IsInstanceName}
use Rattle.smf_state.specs.OwnName.{startd}

pub startd_is_instance : IsInstanceName startd
unfolding name_of_text strip
startd_is_instance = record { reads = refl; names = refl }

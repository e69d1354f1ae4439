use Rattle.smf_provenance.proofs.Enabling.{names_deciding}
use Rattle.smf_provenance.proofs.law.the_named_property_decides.Goals as goal

pub returns : goal.returns
returns c = names_deciding

use Rattle.smf_export.proofs.Chosen.{only_found}
use Rattle.smf_export.proofs.choice.Choice.only.Goals as goal

pub returns : goal.returns
returns c = only_found c.args.services.now c.in_ok-chosen.chosen c.in_ok-chosen.ensures

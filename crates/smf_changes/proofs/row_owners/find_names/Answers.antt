use Rattle.smf_changes.proofs.Owned.{owned_found}
use Rattle.smf_changes.proofs.row_owners.find_names.Goals as goal

pub returns : goal.returns
returns c = λ before. owned_found c.in_ok-all.all c.args.entries.now c.in_ok-all.ensures

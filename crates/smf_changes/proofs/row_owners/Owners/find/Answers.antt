use Rattle.smf_changes.proofs.Owned.{told_found}
use Rattle.smf_changes.proofs.row_owners.Owners.find.Goals as goal

pub returns : goal.returns
returns c = told_found c.args.self.now _ _ c.args.entries.now c.find_names.ensures c.find_numbered-self.ensures
    c.requires

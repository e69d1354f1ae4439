use Rattle.smf_contract.proofs.table.ContractTable.events_from.Goals as goal

pub returns : goal.returns
returns c = rw (c.from_vec.ensures, c.in_ok-given.ensures, c.acknowledged_at-acknowledged.ensures, ← c.self.view_is)

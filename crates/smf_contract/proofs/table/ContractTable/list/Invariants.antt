use Rattle.std.proofs.Common.{◌≡◌, ◌++◌, map, drop}
use Rattle.smf_contract.specs.Entries.{status_of, statuses}
use Rattle.smf_contract.proofs.table.ContractTable.list.Given as goal

abbrev pub invariant-loop-c : goal.invariant-loop-c
invariant-loop-c l = l.list ++ map (status_of l.self.table) (drop l.c-index l.self.table.contracts)
    ≡ statuses l.self.table

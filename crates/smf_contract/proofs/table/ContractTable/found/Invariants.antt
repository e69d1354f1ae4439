use Rattle.std.proofs.Common.{◌≡◌, map, drop}
use Rattle.smf_contract.specs.Begun.{with_all_found}
use Rattle.smf_contract.specs.Entries.{empty}
use Rattle.smf_contract.specs.Laws.{Ascends}
use Rattle.smf_contract.proofs.table.ContractTable.found.Given as goal

abbrev pub invariant-loop-one : goal.invariant-loop-one
invariant-loop-one l = record {
  later : Ascends l.table.table.last_contract (map (λ f. f.id) (drop l.one-index l.found)) l.last;
  all : with_all_found l.holder l.table.table (drop l.one-index l.found) ≡ with_all_found l.holder empty l.found;
}

-- The table after a call, and the contracts that the call empties.
use Rattle.std.specs.Prelude.{ℕ, List, Bool, ◌&&◌, not, Result, Ok, Err, filter, map}
use Rattle.smf_contract.specs.declared.call.ContractCall.{ContractCall}
use Rattle.smf_contract.specs.declared.call.ContractCall.TheVariants as calls
use Rattle.smf_contract.specs.declared.contract.Contract.{Contract}
use Rattle.smf_contract.specs.declared.contract.Member.{Member}
use Rattle.smf_contract.specs.declared.fault.ContractFault.{ContractFault}
use Rattle.smf_contract.specs.Entries.{Contracts, has_members}
use Rattle.smf_contract.specs.Calls.{result_of_spawn, result_of_fork, result_of_exit, result_of_failure, table_without_actor, result_of_adoption, result_of_kill, table_after_reboot}

-- a refusal changes nothing
abbrev pub left_by : Contracts → Result Contracts ContractFault → Contracts
left_by t (Ok u) = u
left_by t (Err e) = t

abbrev pub left_by_making : {X : Type 0} → Contracts → Result (Contracts × X) ContractFault → Contracts
left_by_making t (Ok r) = r.0
left_by_making t (Err e) = t

-- the table after a call
unfoldable pub table_after_contract_call : Contracts → ContractCall → Contracts
table_after_contract_call t calls.Nothing = t
table_after_contract_call t (calls.Spawn actor cookie terms) = left_by_making t (result_of_spawn t actor cookie terms)
table_after_contract_call t (calls.Adopt actor contract) = left_by t (result_of_adoption t actor contract)
table_after_contract_call t (calls.Kill actor contract) = left_by t (result_of_kill t actor contract)
table_after_contract_call t (calls.Gone actor) = table_without_actor t actor
table_after_contract_call t calls.Reboot = table_after_reboot t
table_after_contract_call t (calls.Fork process) = left_by_making t (result_of_fork t process)
table_after_contract_call t (calls.Exit process exit) = left_by t (result_of_exit t process exit)
table_after_contract_call t (calls.Fail process failure) = left_by t (result_of_failure failure t process)

-- its contract had members, and has none left
abbrev pub is_emptied : List Member → List Member → Contract → Bool
is_emptied before after c = has_members c.id before && not (has_members c.id after)

abbrev pub ids_of : List Contract → List ℕ
ids_of cs = map (λ c. c.id) cs

-- those that pass a test
abbrev pub ids_by : (Contract → Bool) → List Contract → List ℕ
ids_by test cs = ids_of (filter test cs)

-- the contracts of the later table that lost their last member, in id order
abbrev pub emptied_between : Contracts → Contracts → List ℕ
emptied_between before after = ids_by (is_emptied before.members after.members) after.contracts

-- the contracts that a call empties
unfoldable pub emptied_by : Contracts → ContractCall → List ℕ
emptied_by t call = emptied_between t (table_after_contract_call t call)

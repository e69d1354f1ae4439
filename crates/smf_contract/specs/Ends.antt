-- How the contracts that a call empties are found.
use Rattle.std.specs.Prelude.{ℕ, List, [], Bool, false, ◌==◌, ◌&&◌, ◌||◌, not, if◌then◌else◌, Option, Some, None, filter, map}
use Rattle.smf_contract.specs.declared.contract.Contract.{Contract}
use Rattle.smf_contract.specs.declared.contract.Member.{Member}
use Rattle.smf_contract.specs.declared.event.Failure.{Failure}
use Rattle.smf_contract.specs.Entries.{Contracts, contract_in, has_id, has_members, is_process, without}
use Rattle.smf_contract.specs.Calls.{ends_with, is_fatal}
use Rattle.smf_contract.specs.Called.{ids_by}
use Rattle.smf_contract.specs.Laws.{is_among}

-- the contracts that a process is in
abbrev pub homes : ℕ → List Member → List ℕ
homes p ms = map (λ m. m.contract) (filter (is_process p) ms)

-- a member, but not this process
abbrev pub is_other : ℕ → Member → Bool
is_other p m = not (is_process p m)

-- the exit of a process with these homes empties the contract: it takes all members of this id along, or was the last
-- one
unfoldable pub is_ended_by : Bool → ℕ → ℕ → List ℕ → List Member → Contract → Bool
is_ended_by takes_all id p ns ms c =
    takes_all && c.id == id || is_among c.id ns && not (has_members c.id (without p ms))

abbrev pub ended_ids : List Contract → List Member → Bool → ℕ → ℕ → List ℕ
ended_ids cs ms takes_all id p = ids_by (is_ended_by takes_all id p (homes p ms) ms) cs

abbrev pub failed_ids : List Contract → List Member → Failure → ℕ → ℕ → List ℕ
failed_ids cs ms failure id p = ended_ids cs ms (is_fatal failure (contract_in cs id)) id p

abbrev pub killed_ids : List Contract → List Member → ℕ → List ℕ
killed_ids cs ms id = if has_members id ms then ids_by (has_id id) cs else []

abbrev pub ids_exited : Contracts → ℕ → Option ℕ → List ℕ
ids_exited t p None = []
ids_exited t p (Some id) = ended_ids t.contracts t.members false id p

abbrev pub ids_failed : Contracts → ℕ → Failure → Option ℕ → List ℕ
ids_failed t p failure None = []
ids_failed t p failure (Some id) = failed_ids t.contracts t.members failure id p

abbrev pub ids_killed : Contracts → ℕ → Bool → List ℕ
ids_killed t id is_held = if is_held then killed_ids t.contracts t.members id else []

abbrev pub ending_ids : ℕ → List Contract → List ℕ
ending_ids actor cs = ids_by (ends_with actor) cs

-- one of these contracts that has members
unfoldable pub is_ending : List ℕ → List Member → Contract → Bool
is_ending ns ms c = is_among c.id ns && has_members c.id ms

abbrev pub ids_left : ℕ → List Contract → List Member → List ℕ
ids_left actor cs ms = ids_by (is_ending (ending_ids actor cs) ms) cs

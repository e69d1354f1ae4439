-- The entries of a contract table, and how they are looked up.
use Rattle.std.specs.Prelude.{ℕ, ◌+◌, ◌*◌, List, [], Bool, ◌==◌, ◌&&◌, not, nat_lt, nat_le, Option, Some, None, option_map, filter, map, position, slice_get, count_by}
use Rattle.std.specs.List.{list_any}
use Rattle.smf_contract.specs.declared.contract.Contract.{Contract}
use Rattle.smf_contract.specs.declared.contract.Member.{Member}
use Rattle.smf_contract.specs.declared.contract.Report.{Report}
use Rattle.smf_contract.specs.declared.contract.Status.{Status}
use Rattle.smf_contract.specs.declared.event.ContractEvent.{ContractEvent}

-- contracts by id, members by number, all events in the order of time; the last id and the last process number that
-- were given
pub record Contracts : Type 0 where
  pub contracts : List Contract
  pub members : List Member
  pub events : List ContractEvent
  pub last_contract : ℕ
  pub last_process : ℕ

-- who is a member of which contract, and what happened
pub record Activity : Type 0 where
  pub members : List Member
  pub events : List ContractEvent

-- the table, and whether it has room for any call
pub record Kept : Type 0 where
  pub table : Contracts
  pub room : Bool

abbrev pub empty : Contracts
empty = record { contracts = []; members = []; events = []; last_contract = 0; last_process = 0 }

-- by length and capacity: one more contract, one more member, and all events that a call brings
abbrev pub has_room : ℕ → ℕ → ℕ → ℕ → ℕ → ℕ → Bool
has_room contracts contracts_fit members members_fit events events_fit =
    nat_lt contracts contracts_fit && nat_lt members members_fit && nat_le (events + (2 * members + 3)) events_fit

abbrev pub has_id : ℕ → Contract → Bool
has_id id c = c.id == id

abbrev pub is_process : ℕ → Member → Bool
is_process p m = m.process == p

abbrev pub is_in : ℕ → Member → Bool
is_in id m = m.contract == id

abbrev pub is_event_of : ℕ → ContractEvent → Bool
is_event_of id e = e.contract == id

abbrev pub found_at : {X : Type 0} → List X → Option ℕ → Option X
found_at xs None = None
found_at xs (Some k) = slice_get xs k

abbrev pub contract_in : List Contract → ℕ → Option Contract
contract_in cs id = found_at cs (position (has_id id) cs)

-- the contract of an id
abbrev pub contract : Contracts → ℕ → Option Contract
contract t id = contract_in t.contracts id

-- the contract that a process is in
abbrev pub home : List Member → ℕ → Option ℕ
home ms p = option_map (λ m. m.contract) (found_at ms (position (is_process p) ms))

abbrev pub has_members : ℕ → List Member → Bool
has_members id ms = list_any (is_in id) ms

-- the processes of a contract, in number order
abbrev pub processes : ℕ → List Member → List ℕ
processes id ms = map (λ m. m.process) (filter (is_in id) ms)

-- the members but a process
abbrev pub without : ℕ → List Member → List Member
without p ms = filter (λ m. not (is_process p m)) ms

-- the members of the other contracts
abbrev pub outside : ℕ → List Member → List Member
outside id ms = filter (λ m. not (is_in id m)) ms

-- the number of the last event of a contract
abbrev pub last_event : ℕ → List ContractEvent → ℕ
last_event id es = count_by (is_event_of id) es

-- the lowest process of a contract
abbrev pub first_member : ℕ → List Member → Option ℕ
first_member id ms = option_map (λ m. m.process) (found_at ms (position (is_in id) ms))

abbrev pub is_event : ℕ → ℕ → ContractEvent → Bool
is_event id number e = e.contract == id && e.number == number

abbrev pub event_in : List ContractEvent → ℕ → ℕ → Option ContractEvent
event_in es id number = found_at es (position (is_event id number) es)

abbrev pub report_of : Option Contract → Option ContractEvent → Option Report
report_of None e = None
report_of (Some c) None = None
report_of (Some c) (Some e) = Some (record { contract = c; event = e })

-- an event of a contract by its number, with the contract as it is now
unfoldable pub report_of_event : Contracts → ℕ → ℕ → Option Report
report_of_event t id number = report_of (contract t id) (event_in t.events id number)

-- a contract with its members and all its events
abbrev pub status_of : Contracts → Contract → Status
status_of t c = record { contract = c; members = processes c.id t.members; events = filter (is_event_of c.id) t.events }

abbrev pub status : Contracts → ℕ → Option Status
status t id = option_map (status_of t) (contract t id)

abbrev pub statuses : Contracts → List Status
statuses t = map (status_of t) t.contracts

abbrev pub acknowledged_at : Option Contract → ℕ
acknowledged_at None = 0
acknowledged_at (Some c) = c.acknowledged

-- an event of the contract, of this number or later, and not acknowledged
unfoldable pub is_given : ℕ → ℕ → ℕ → ContractEvent → Bool
is_given id number acknowledged e = is_event_of id e && nat_le number e.number && nat_lt acknowledged e.number

abbrev pub events_from : Contracts → ℕ → ℕ → List ContractEvent
events_from t id number = filter (is_given id number (acknowledged_at (contract t id))) t.events

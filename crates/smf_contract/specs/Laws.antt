-- The laws that hold of a contract table after any call.
use Rattle.std.specs.Prelude.{◌≡◌, ℕ, ◌<◌, ◌≤◌, ◌==◌, ◌&&◌, not, zero, suc, List, [], ◌∷◌, ◌++◌, Bool, true, false, map, filter}
use Rattle.std.specs.List.{list_any}
use Rattle.smf_contract.specs.declared.contract.Member.{Member}
use Rattle.smf_contract.specs.declared.event.ContractEvent.{ContractEvent}
use Rattle.smf_contract.specs.declared.call.ContractCall.{ContractCall}
use Rattle.smf_contract.specs.Entries.{Contracts, empty, has_members, is_event_of, last_event}
use Rattle.smf_contract.specs.Calls.{result_of_abandonment, result_of_acknowledgement}
use Rattle.smf_contract.specs.Called.{table_after_contract_call, left_by}

-- a call that may change the table
pub data Call : Type 0 where
  Asked : ContractCall → Call
  Abandon : (actor id : ℕ) → Call
  Acknowledge : (actor id number : ℕ) → Call

-- the table after a call
abbrev pub table_after_call : Contracts → Call → Contracts
table_after_call t (Asked call) = table_after_contract_call t call
table_after_call t (Abandon actor id) = left_by t (result_of_abandonment t actor id)
table_after_call t (Acknowledge actor id number) = left_by t (result_of_acknowledgement t actor id number)

-- the table after calls, the newest first
abbrev pub after : List Call → Contracts
after [] = empty
after (call ∷ calls) = table_after_call (after calls) call

-- each number is above the one before it, the first one above low, and none is above the last
abbrev pub Ascends : ℕ → List ℕ → ℕ → Type 0
Ascends low [] last = low ≤ last
Ascends low (n ∷ ns) last = (low < n) × Ascends n ns last

abbrev pub ids : Contracts → List ℕ
ids t = map (λ c. c.id) t.contracts

abbrev pub is_among : ℕ → List ℕ → Bool
is_among n ns = list_any (λ m. m == n) ns

-- it is a contract of the later table, and lost its last member
abbrev pub is_lost : ℕ → Contracts → Contracts → Bool
is_lost id before after =
    is_among id (ids after) && (has_members id before.members && not (has_members id after.members))

-- each member is in a contract of these ids
abbrev pub Homed : List ℕ → List Member → Type 0
Homed ns [] = Unit {0}
Homed ns (m ∷ ms) = (is_among m.contract ns ≡ true) × Homed ns ms

-- the numbers from 1
abbrev pub numbers_up_to : ℕ → List ℕ
numbers_up_to zero = []
numbers_up_to (suc n) = numbers_up_to n ++ suc n ∷ []

-- the numbers of a contract's events
abbrev pub numbers_of : ℕ → List ContractEvent → List ℕ
numbers_of id es = map (λ e. e.number) (filter (is_event_of id) es)

-- ids and process numbers begin at 1, stand in order, no two are equal, and none is above the last one given. Each
-- member is in a contract of the table, and each contract numbers its events from 1
pub record IsOrdered (t : Contracts) : Type 0 where
  pub contracts_ascend : Ascends 0 (ids t) t.last_contract
  pub members_ascend : Ascends 0 (map (λ m. m.process) t.members) t.last_process
  pub homed : Homed (ids t) t.members
  pub numbered : (id : ℕ) → numbers_of id t.events ≡ numbers_up_to (last_event id t.events)

-- the last numbers never fall
pub record NeverFalls (old new : Contracts) : Type 0 where
  pub contract : old.last_contract ≤ new.last_contract
  pub process : old.last_process ≤ new.last_process

-- a contract that was given is empty, and stays so
abbrev pub StaysEmpty : Contracts → Contracts → Type 0
StaysEmpty old new = (id : ℕ) → id ≤ old.last_contract → has_members id old.members ≡ false
    → has_members id new.members ≡ false

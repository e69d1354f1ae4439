-- The table of contracts that are there when it begins.
use Rattle.std.specs.Prelude.{ℕ, ◌+◌, List, [], ◌∷◌, ◌++◌, true, Option, Some, None}
use Rattle.smf_contract.specs.declared.contract.Contract.{Contract}
use Rattle.smf_contract.specs.declared.contract.Holder.{Holder}
use Rattle.smf_contract.specs.declared.contract.Member.{Member}
use Rattle.smf_contract.specs.declared.event.ContractEvent.{ContractEvent}
use Rattle.smf_contract.specs.declared.event.EventKind.TheVariants as kinds
use Rattle.smf_contract.specs.declared.event.Exit.{Exit}
use Rattle.smf_contract.specs.declared.found.Found.{Found}
use Rattle.smf_contract.specs.Calls.{with_next_event}
use Rattle.smf_contract.specs.Entries.{Contracts, empty}

-- each has the next two numbers of processes: its first one, and one that stands for all others
abbrev pub found_contract : Holder → ℕ → Found → Contract
found_contract who last f =
    record {
      id = f.id;
      cookie = f.cookie;
      holder = who;
      terms = f.terms;
      first = last + 1;
      acknowledged = 0;
    }

-- the others are known of once the end of the first is told
abbrev pub found_member : ℕ → ℕ → Option Exit → Member
found_member last id None = record { process = last + 1; contract = id }
found_member last id (Some exit) = record { process = last + 1 + 1; contract = id }

abbrev pub found_events : List ContractEvent → ℕ → ℕ → Option Exit → List ContractEvent
found_events es last id None = es
found_events es last id (Some exit) = with_next_event es id (kinds.Exit (last + 1) exit) true

-- one more contract that is there
unfoldable pub with_found : Holder → Contracts → Found → Contracts
with_found who t f =
    record {
      contracts = t.contracts ++ found_contract who t.last_process f ∷ [];
      members = t.members ++ found_member t.last_process f.id f.end ∷ [];
      events = found_events t.events t.last_process f.id f.end;
      last_contract = f.id;
      last_process = t.last_process + 1 + 1;
    }

-- all of them, after those of a table
abbrev pub with_all_found : Holder → Contracts → List Found → Contracts
with_all_found who t [] = t
with_all_found who t (f ∷ fs) = with_all_found who (with_found who t f) fs

-- the table of contracts that are there, with the last id that was ever given
abbrev pub table_of_found : Holder → ℕ → List Found → Contracts
table_of_found who last fs = record (with_all_found who empty fs) { last_contract = last }

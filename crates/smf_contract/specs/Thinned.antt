-- A contract table without the contracts that have no members.
use Rattle.std.specs.Prelude.{filter}
use Rattle.smf_contract.specs.Entries.{Contracts, has_members}

-- each contract that has no members is gone, with its events
abbrev pub thinned : Contracts → Contracts
thinned t =
    record t {
      contracts = filter (λ c. has_members c.id t.members) t.contracts;
      events = filter (λ e. has_members e.contract t.members) t.events;
    }

-- The table keeps places and a second order beside its lists, so that one contract, its events and its members are found
-- without the others.
use Rattle.std.specs.Prelude.{◌≡◌, ℕ, zero, suc, ◌+◌, ◌<◌, List, [], ◌∷◌, length, get_or, take, filter, map, Bool, true, false, Option, Some, None}
use Rattle.smf_fmri.specs.ByKey.{By, Rises, by_number, by_pair, lookup}
use Rattle.smf_contract.specs.declared.contract.Contract.{Contract}
use Rattle.smf_contract.specs.declared.contract.Member.{Member}
use Rattle.smf_contract.specs.declared.event.ContractEvent.{ContractEvent}
use Rattle.smf_contract.specs.declared.past.Last.{Last}
use Rattle.smf_contract.specs.Entries.{is_event_of, is_in, last_event}
use Rattle.smf_contract.specs.Laws.{Ascends}

-- the events, and how many fit
pub record Happenings : Type 0 where
  pub events : List ContractEvent
  pub fit : ℕ

-- the contracts, the last id that was given, and how many contracts fit
pub record Holdings : Type 0 where
  pub contracts : List Contract
  pub last : ℕ
  pub fit : ℕ

-- the processes of all contracts, the last number that was given, and how many processes fit
pub record Memberships : Type 0 where
  pub members : List Member
  pub last : ℕ
  pub fit : ℕ

abbrev pub by_id : By Contract ℕ
by_id = by_number (λ c. c.id)

abbrev pub by_contract : By Last ℕ
by_contract = by_number (λ l. l.contract)

abbrev pub until_by : ℕ → Bool → ℕ
until_by zero true = suc zero
until_by zero false = zero
until_by (suc n) is_of = suc (suc n)

-- how many events stand up to and with the last one of a contract; 0 if it has none
abbrev pub until : ℕ → List ContractEvent → ℕ
until id [] = zero
until id (e ∷ es) = until_by (until id es) (is_event_of id e)

abbrev pub count_of : Option Last → ℕ
count_of None = 0
count_of (Some l) = l.count

abbrev pub until_of : Option Last → ℕ
until_of None = 0
until_of (Some l) = l.until

-- the number of an event is the count of its contract's events up to it
abbrev pub AreNumbered : List ContractEvent → Type 0
AreNumbered es = (k : ℕ) (d : ContractEvent) → k < length es
    → (get_or es k d).number ≡ last_event (get_or es k d).contract (take k es) + 1

-- each event is tied to the one before it of its contract
pub record AreTied (es : List ContractEvent) (before : List ℕ) : Type 0 where
  pub sized : length before ≡ length es
  pub tied : (k : ℕ) (d : ContractEvent) → k < length es
      → get_or before k 0 ≡ until (get_or es k d).contract (take k es)
  pub numbered : AreNumbered es

-- the last number of each contract, and the place of its last event, are kept
pub record AreTraced (es : List ContractEvent) (before : List ℕ) (lasts : List Last) : Type 0 where
  pub rises : Rises by_contract lasts
  pub events : AreTied es before
  pub counts : (id : ℕ) → count_of (lookup by_contract lasts id) ≡ last_event id es
  pub untils : (id : ℕ) → until_of (lookup by_contract lasts id) ≡ until id es

abbrev pub by_process : By Member ℕ
by_process = by_number (λ m. m.process)

-- by contract, and then by process
abbrev pub by_home : By Member (ℕ × ℕ)
by_home = by_pair (by_number (λ m. m.contract)) by_process

-- processes ascend, and a second list of them goes by contract
pub record AreGrouped (ms gs : List Member) (last : ℕ) : Type 0 where
  pub ascends : Ascends 0 (map (λ m. m.process) ms) last
  pub rises : Rises by_home gs
  pub same : (id : ℕ) → filter (is_in id) gs ≡ filter (is_in id) ms

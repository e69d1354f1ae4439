-- The sights of contracts of the system, and the events that are told of them.
use Rattle.std.specs.Prelude.{◌≡◌, ℕ, ◌<◌, List, ◌⊎◌, ◌++◌, [], ◌∷◌, true, false, Option, Some, None, filter, slice_get}
use Rattle.smf_contract.specs.declared.contract.Contract.{Contract}
use Rattle.smf_contract.specs.declared.event.ContractEvent.{ContractEvent}
use Rattle.smf_contract.specs.Entries.{Contracts, contract}
use Rattle.smf_edge.specs.declared.deed.Happening.TheVariants.{Fork}
use Rattle.smf_edge.specs.declared.start.Start.{Start}
use Rattle.smf_edge.specs.Ends.{MayRefuse}
use Rattle.smf_edge.specs.Answers.{Skills}
use Rattle.smf_edge.specs.Ledgers.{Ledger, members_left}
use Rattle.smf_edge.specs.Processes.{HasTold}
use Rattle.smf_edge.specs.Steps.{IsGiven}
use Rattle.smf_edge.specs.declared.kid.Kid.{Kid}
use Rattle.smf_edge.specs.declared.kid.Phase.{Phase}
use Rattle.smf_edge.specs.declared.kid.Phase.TheVariants.{First, Forked, Others}
use Rattle.smf_edge.specs.declared.sights.Sight.{Sight}
use Rattle.smf_edge.specs.declared.sights.Sight.TheVariants as sights
use Rattle.smf_edge.specs.declared.stand.FirstEnd.{FirstEnd}
use Rattle.smf_edge.specs.declared.stand.FirstEnd.TheVariants.{Code}
use Rattle.smf_edge.specs.declared.stand.Stand.TheVariants.{Runs, Left, Gone}
use Rattle.smf_edge.specs.FollowedFacts.{ContractFacts}
use Rattle.smf_edge.specs.Phases.{IsPut, SomeKid, happening_of, is_fatal_end, is_other_post, posts}
use Rattle.std_io.specs.declared.io.error.Error.{Error}

-- services of all durations are followed; processes are neither acted on nor waited for, and the system may fail
abbrev pub follow_skills : (Error → Type 0) → Skills
follow_skills start_fails = record {
  follows = λ _. true;
  acts = false;
  joins = false;
  has_device = true;
  may_refuse = MayRefuse start_fails;
  lacks_memory = Unit {0};
}

-- ---- one contract

-- there is nothing to tell
abbrev pub IsStill : {H : Type 0} → ContractFacts H → Phase → H → Type 0
IsStill facts First held = facts.stands held Runs
IsStill facts (Forked end) held = ⊥
IsStill facts Others held = facts.stands held Runs ⊎ ((end : FirstEnd) × facts.stands held (Left end))

-- Nothing is left of it, and this end is to be told. It is that of the first process; or, if that was told, of the
-- others, which end well.
abbrev pub IsEmptied : {H : Type 0} → ContractFacts H → Option Contract → FirstEnd → Phase → H → Type 0
IsEmptied facts c end First held = facts.stands held (Gone end)
IsEmptied facts c end (Forked first) held = (first ≡ end) × (is_fatal_end c end ≡ true) × facts.is_ended held
IsEmptied facts c end Others held = (end ≡ Code 0) × (first : FirstEnd) × facts.stands held (Gone first)

-- the system did not answer, or did not end it
abbrev pub IsFailed : {H : Type 0} → ContractFacts H → Phase → H → Type 0
IsFailed facts First held = facts.is_lost held
IsFailed facts (Forked end) held = facts.may_live held
IsFailed facts Others held = facts.is_lost held

abbrev pub SeenIn : {H : Type 0} → ContractFacts H → Option Contract → Sight → Phase → H → Type 0
SeenIn facts c sights.Still phase held = IsStill facts phase held
SeenIn facts c (sights.Left id end) phase held = (phase ≡ First) × facts.stands held (Left end)
SeenIn facts c (sights.Over id end) phase held = (phase ≡ Forked end) × (is_fatal_end c end ≡ false)
SeenIn facts c (sights.Gone id end) phase held = IsEmptied facts c end phase held
SeenIn facts c sights.Failed phase held = IsFailed facts phase held

-- which contract a sight is of
abbrev pub IsSightOf : Sight → ℕ → Type 0
IsSightOf sights.Still at = Unit {0}
IsSightOf (sights.Left id end) at = id ≡ at
IsSightOf (sights.Over id end) at = id ≡ at
IsSightOf (sights.Gone id end) at = id ≡ at
IsSightOf sights.Failed at = Unit {0}

pub record IsSeen {H : Type 0} (facts : ContractFacts H) (t : Contracts) (sight : Sight) (kid : Kid H) : Type 0 where
  pub of : IsSightOf sight kid.contract
  pub seen : SeenIn facts (contract t kid.contract) sight kid.phase kid.held

-- ---- all contracts

-- there is nothing to tell of any
abbrev pub AllStill : {H : Type 0} → ContractFacts H → List (Kid H) → Type 0
AllStill {H} facts kids = (k : ℕ) (kid : Kid H) → slice_get kids k ≡ Some kid → IsStill facts kid.phase kid.held

abbrev pub OneFails : {H : Type 0} → ContractFacts H → List (Kid H) → Type 0
OneFails {H} facts kids = (k : ℕ) × (kid : Kid H) × (slice_get kids k ≡ Some kid) × IsFailed facts kid.phase kid.held

-- one of which that is seen
abbrev pub OneSeen : {H : Type 0} → ContractFacts H → Contracts → Sight → List (Kid H) → Type 0
OneSeen {H} facts t sight kids = (k : ℕ) × (kid : Kid H) × (slice_get kids k ≡ Some kid) × IsSeen facts t sight kid

abbrev pub AreSeen : {H : Type 0} → ContractFacts H → Contracts → Sight → List (Kid H) → Type 0
AreSeen facts t sights.Still kids = AllStill facts kids
AreSeen facts t (sights.Left id end) kids = OneSeen facts t (sights.Left id end) kids
AreSeen facts t (sights.Over id end) kids = OneSeen facts t (sights.Over id end) kids
AreSeen facts t (sights.Gone id end) kids = OneSeen facts t (sights.Gone id end) kids
AreSeen facts t sights.Failed kids = OneFails facts kids

-- ---- what is told

-- the first process ended, and others live: a fork is told first
pub record TellsFork {H : Type 0} (facts : ContractFacts H) (e : ContractEvent) (l m : Ledger)
    (old new : List (Kid H)) : Type 0 where
  pub id : ℕ
  pub end : FirstEnd
  pub kid : SomeKid id old (λ kid. (kid.phase ≡ First) × facts.stands kid.held (Left end))
  pub told : HasTold id Fork l m e
  pub posts : IsPut id (Forked end) (posts old) (posts new)

-- then the end of the first process, which is not fatal
pub record TellsEnd {H : Type 0} (e : ContractEvent) (l m : Ledger) (old new : List (Kid H)) : Type 0 where
  pub id : ℕ
  pub end : FirstEnd
  pub kid : SomeKid id old (λ kid. kid.phase ≡ Forked end)
  pub lone : is_fatal_end (contract l.table id) end ≡ false
  pub told : HasTold id (happening_of end) l m e
  pub posts : IsPut id Others (posts old) (posts new)

-- nothing is left: the last end is told, and the contract is forgotten
pub record TellsLast {H : Type 0} (facts : ContractFacts H) (e : ContractEvent) (l m : Ledger)
    (old new : List (Kid H)) : Type 0 where
  pub id : ℕ
  pub end : FirstEnd
  pub kid : SomeKid id old (λ kid. IsEmptied facts (contract l.table id) end kid.phase kid.held)
  pub told : HasTold id (happening_of end) l m e
  pub posts : posts new ≡ filter (is_other_post id) (posts old)

-- an event that was due tells of no contract of the system anew
abbrev pub PollsEvent : {H : Type 0} → ContractFacts H → ContractEvent → Ledger → Ledger → List (Kid H) → List (Kid H)
    → Type 0
PollsEvent facts e l m old new =
    (IsGiven e l m × (new ≡ old))
    ⊎ ((l.due ≡ []) × (TellsFork facts e l m old new ⊎ (TellsEnd e l m old new ⊎ TellsLast facts e l m old new)))

-- no event is given only if there is nothing to tell of any
abbrev pub PollsKids : {H : Type 0} → ContractFacts H → Option ContractEvent → Ledger → Ledger → List (Kid H)
    → List (Kid H) → Type 0
PollsKids facts None l m old new = (posts new ≡ posts old) × AllStill facts old
PollsKids facts (Some e) l m old new = PollsEvent facts e l m old new

-- the system said that nothing is left
abbrev pub IsEmpty : {H : Type 0} → ContractFacts H → H → Type 0
IsEmpty facts held = ((end : FirstEnd) × facts.stands held (Gone end)) ⊎ facts.is_ended held

-- a contract loses its last member only if the system said that nothing is left of it
abbrev pub EmptiesOnly : {H : Type 0} → ContractFacts H → List (Kid H) → Ledger → Ledger → Type 0
EmptiesOnly facts old l m = (id : ℕ) → 0 < members_left l id → members_left m id ≡ 0
    → SomeKid id old (λ kid. IsEmpty facts kid.held)

-- the last contract is of this start
pub record IsStarted {H : Type 0} (facts : ContractFacts H) (start : Start) (old new : List (Kid H)) : Type 0 where
  pub held : H
  pub of : facts.is_of start held
  pub is : new ≡ old ++ record { contract = start.contract; phase = First; held = held } ∷ []

-- The phases of a contract of the system: how much was told of its members.
use Rattle.std.specs.Prelude.{◌≡◌, ◌≢◌, ℕ, ◌+◌, List, [], ◌∷◌, Bool, true, false, ◌==◌, not, if◌then◌else◌, Option, Some, map, slice_get, slice_set}
use Rattle.smf_contract.specs.declared.contract.Contract.{Contract}
use Rattle.smf_contract.specs.declared.event.Exit.TheVariants as exits
use Rattle.smf_contract.specs.declared.event.Failure.TheVariants as failures
use Rattle.smf_contract.specs.Calls.{is_fatal}
use Rattle.smf_edge.specs.declared.deed.Happening.{Happening}
use Rattle.smf_edge.specs.declared.deed.Happening.TheVariants.{Exit, Fail}
use Rattle.smf_edge.specs.declared.stand.FirstEnd.{FirstEnd}
use Rattle.smf_edge.specs.declared.stand.FirstEnd.TheVariants.{Code, Signal, Core}
use Rattle.smf_edge.specs.declared.kid.Kid.{Kid}
use Rattle.smf_edge.specs.declared.kid.Phase.{Phase}
use Rattle.smf_edge.specs.declared.kid.Phase.TheVariants.{First, Forked, Others}

-- an end as what happens to a member
abbrev pub happening_of : FirstEnd → Happening
happening_of (Code code) = Exit (exits.Code code)
happening_of Signal = Fail failures.Signal
happening_of Core = Fail failures.Core

-- an end of the first process ends all of its contract
abbrev pub is_fatal_end : Option Contract → FirstEnd → Bool
is_fatal_end c (Code code) = false
is_fatal_end c Signal = is_fatal failures.Signal c
is_fatal_end c Core = is_fatal failures.Core c

-- how many members a contract has, by what was told: the first process, and one that stands for all others
abbrev pub size : Phase → ℕ
size First = 1
size (Forked end) = 2
size Others = 1

-- what was told of a contract that is there already, by whether its first process has ended
abbrev pub phase_after : Bool → Phase
phase_after true = Others
phase_after false = First

-- a contract, and what was told of it
pub record Post : Type 0 where
  pub contract : ℕ
  pub phase : Phase

abbrev pub post_of : {H : Type 0} → Kid H → Post
post_of kid = record { contract = kid.contract; phase = kid.phase }

abbrev pub posts : {H : Type 0} → List (Kid H) → List Post
posts kids = map post_of kids

abbrev pub ids_of : List Post → List ℕ
ids_of ps = map (λ p. p.contract) ps

abbrev pub is_kid_of : {H : Type 0} → ℕ → Kid H → Bool
is_kid_of id kid = kid.contract == id

abbrev pub is_other_kid : {H : Type 0} → ℕ → Kid H → Bool
is_other_kid id kid = not (kid.contract == id)

abbrev pub is_other_post : ℕ → Post → Bool
is_other_post id p = not (p.contract == id)

-- how many members a post gives to a contract
abbrev pub size_in : ℕ → Post → ℕ
size_in id p = if p.contract == id then size p.phase else 0

-- how many members a contract has
abbrev pub size_of : ℕ → List Post → ℕ
size_of id [] = 0
size_of id (p ∷ ps) = size_in id p + size_of id ps

-- none of them is of this contract
abbrev pub IsAbsent : ℕ → List Post → Type 0
IsAbsent id ps = (k : ℕ) (p : Post) → slice_get ps k ≡ Some p → p.contract ≢ id

-- a contract is told of as far as this phase
abbrev pub IsPut : ℕ → Phase → List Post → List Post → Type 0
IsPut id phase old new =
    (k : ℕ) × (p : Post) × (slice_get old k ≡ Some p) × (p.contract ≡ id)
    × (new ≡ slice_set old k (record { contract = id; phase = phase }))

-- a process of the system, in a contract, of which this holds
abbrev pub SomeKid : {H : Type 0} → ℕ → List (Kid H) → (Kid H → Type 0) → Type 0
SomeKid {H} id kids P = (k : ℕ) × (kid : Kid H) × (slice_get kids k ≡ Some kid) × (kid.contract ≡ id) × P kid

-- What the order promises.
use Rattle.std.specs.Prelude.{◌≡◌, ℕ, List, [], ◌∷◌, ◌++◌, All, Contains, true, false, flat_map}
use Rattle.smf_dep.specs.declared.member.GraphMember.{GraphMember}
use Rattle.smf_stops.specs.Stops.{free, going, is_held, requires}

-- each of them is required by another of them
abbrev pub IsCircle : List GraphMember → Type 0
IsCircle ms = All (λ m. is_held ms m ≡ true) ms

-- the instances of batches
abbrev pub all_of : List (List GraphMember) → List GraphMember
all_of bs = flat_map (λ b. b) bs

-- all that go are free, and they are a circle
pub record IsCircleOf (ms : List GraphMember) : Type 0 where
  pub all : free ms ≡ going ms
  pub circle : IsCircle (going ms)

-- none of the first batch is required by one that stands there or later, unless the batch is a circle; and so on
abbrev pub IsOrderedPlan : List (List GraphMember) → Type 0
IsOrderedPlan [] = Unit {0}
IsOrderedPlan (b ∷ bs) =
    ((x y : GraphMember) → Contains b x → Contains (b ++ all_of bs) y → requires y x ≡ true → IsCircle b)
    × IsOrderedPlan bs

-- what is asked to stop is not enabled afterwards
abbrev pub AreDisabled : List (List ℕ) → List GraphMember → Type 0
AreDisabled names ms = All (λ m. Contains names m.name → m.enabled ≡ false) ms

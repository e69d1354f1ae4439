-- Which instances won't run, in the words of smf(5) and without rounds.
use Rattle.std.specs.Prelude.{◌≡◌, ℕ, List, Bool, true, ◌&&◌, ◌||◌}
use Rattle.smf_dep.specs.declared.member.GraphMember.{GraphMember}
use Rattle.smf_dep.specs.Cycles.{IsAmong}
use Rattle.smf_dep.specs.Verdicts.{any_blocked, is_idle, is_parked, is_waiting, parked_in}

-- an instance is parked if it is idle, and also if it waits and parked instances block one of its groups
abbrev pub parks : List GraphMember → (GraphMember → Bool) → GraphMember → Bool
parks ms is_parked m = is_idle m || (is_waiting m && any_blocked is_parked ms m.dependencies)

-- each test that parks as much parks each instance that is parked
abbrev pub IsLeast : List GraphMember → Type 0
IsLeast ms = (f : GraphMember → Bool) → ((m : GraphMember) → parks ms f m ≡ true → f m ≡ true)
    → (m : GraphMember) → is_parked ms m ≡ true → f m ≡ true

-- each instance that is there is parked in a round as it is in the last
abbrev pub IsSettled : List GraphMember → ℕ → Type 0
IsSettled ms k = (m : GraphMember) → IsAmong m ms → parked_in k ms m ≡ is_parked ms m

-- Ways from an instance to another along what they cite, by the names of the instances between.
use Rattle.std.specs.Prelude.{◌≡◌, ℕ, List, map, false, Option, Some, None}
use Rattle.smf_dep.specs.declared.member.GraphMember.{GraphMember}
use Rattle.smf_dep.specs.Cycles.{IsPath, leads}

abbrev pub names_of : List GraphMember → List (List ℕ)
names_of path = map (λ (x : GraphMember). x.name) path

pub record IsWay (ms : List GraphMember) (a b : GraphMember) (names : List (List ℕ)) : Type 0 where
  pub path : List GraphMember
  pub along : IsPath ms a path b
  pub named : names ≡ names_of path

-- the way that a hint gave; nothing is said if the hint does not hold
abbrev pub IfWay : List GraphMember → GraphMember → GraphMember → Option (List (List ℕ)) → Type 0
IfWay ms a b None = Unit {0}
IfWay ms a b (Some names) = IsWay ms a b names

-- a way, or none if the one does not lead to the other
abbrev pub WayOrNone : List GraphMember → GraphMember → GraphMember → Option (List (List ℕ)) → Type 0
WayOrNone ms a b None = leads ms a b ≡ false
WayOrNone ms a b (Some names) = IsWay ms a b names

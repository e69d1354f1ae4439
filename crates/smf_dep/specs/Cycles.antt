-- Which instances depend on themselves.
use Rattle.std.specs.Prelude.{◌≡◌, ◌⊎◌, List, [], ◌∷◌, Bool, true, false, not, ◌&&◌, ◌||◌, Option, Some, None}
use Rattle.std.specs.List.{list_any}
use Rattle.smf_links.specs.declared.grouping.Grouping.{Grouping}
use Rattle.smf_links.specs.declared.grouping.Grouping.TheVariants.{ExcludeAll}
use Rattle.smf_dep.specs.declared.dependency.Dependency.{Dependency}
use Rattle.smf_dep.specs.declared.member.GraphMember.{GraphMember}
use Rattle.smf_dep.specs.Verdicts.{is_cited}

abbrev pub excludes : Grouping → Bool
excludes ExcludeAll = true
excludes _ = false

-- a group cites an instance, unless it excludes it
abbrev pub asks_for : GraphMember → Dependency → Bool
asks_for m d = not (excludes d.grouping) && list_any (λ e. is_cited e m) d.entities

abbrev pub asked_for : Option (List Dependency) → GraphMember → Bool
asked_for None m = false
asked_for (Some ds) m = list_any (asks_for m) ds

-- an instance cites another
abbrev pub cites : GraphMember → GraphMember → Bool
cites a b = asked_for a.dependencies b

abbrev pub IsAmong : GraphMember → List GraphMember → Type 0
IsAmong m [] = ⊥
IsAmong m (x ∷ xs) = (x ≡ m) ⊎ IsAmong m xs

-- instances of which each cites the next, from the one to the other
abbrev pub IsPath : List GraphMember → GraphMember → List GraphMember → GraphMember → Type 0
IsPath ms a [] b = cites a b ≡ true
IsPath ms a (m ∷ path) b = IsAmong m ms × (cites a m ≡ true) × IsPath ms m path b

-- a list of instances from the one to itself
abbrev pub IsCycle : List GraphMember → GraphMember → List GraphMember → Type 0
IsCycle ms m path = IsPath ms m path m

abbrev pub HasCycle : List GraphMember → GraphMember → Type 0
HasCycle ms m = (path : List GraphMember) × IsCycle ms m path

-- the same as a test: one leads to the other by way of these
unfoldable pub leads : List GraphMember → GraphMember → GraphMember → Bool
leads [] a b = cites a b
leads (x ∷ xs) a b = leads xs a b || (leads xs a x && leads xs x b)

unfoldable pub on_cycle : List GraphMember → GraphMember → Bool
on_cycle ms m = leads ms m m

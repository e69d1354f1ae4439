-- Who depends on whom.
use Rattle.std.specs.Prelude.{ℕ, List, Bool, false, Option, Some, None}
use Rattle.std.specs.List.{list_any}
use Rattle.smf_dep.specs.declared.dependency.Dependency.{Dependency}
use Rattle.smf_dep.specs.declared.member.GraphMember.{GraphMember}
use Rattle.smf_dep.specs.Verdicts.{is_cited}
use Rattle.smf_admin.specs.declared.list_options.Relation.{Relation}
use Rattle.smf_admin.specs.declared.list_options.Relation.TheVariants.{Dependencies, Dependents}

-- one of the entities stands for the instance
abbrev pub any_cites : GraphMember → List (List ℕ) → Bool
any_cites on entities = list_any (λ e. is_cited e on) entities

abbrev pub depends_by : GraphMember → Dependency → Bool
depends_by on d = any_cites on d.entities

abbrev pub depends_in : Option (List Dependency) → GraphMember → Bool
depends_in None on = false
depends_in (Some ds) on = list_any (depends_by on) ds

-- an instance depends on another by any group, whatever its grouping; by none if a group can't be read
abbrev pub depends : GraphMember → GraphMember → Bool
depends m on = depends_in m.dependencies on

-- an instance stands so to one of those that were chosen
abbrev pub is_related : Relation → List GraphMember → GraphMember → Bool
is_related Dependencies chosen m = list_any (λ c. depends c m) chosen
is_related Dependents chosen m = list_any (λ c. depends m c) chosen

-- Which instances exclude each other.
use Rattle.std.specs.Prelude.{ℕ, List, [], ◌++◌, Bool, true, false, not, ◌&&◌, nat_eq, if◌then◌else◌, flat_map, codes, Option, Some, None}
use Rattle.std.specs.Cmp.Lexicographic.{pointwise}
use Rattle.std.specs.List.{list_any}
use Rattle.smf_dep.specs.declared.dependency.Dependency.{Dependency}
use Rattle.smf_dep.specs.declared.member.GraphMember.{GraphMember}
use Rattle.smf_dep.specs.Verdicts.{is_cited}
use Rattle.smf_dep.specs.Cycles as cycles
use Rattle.smf_reasons.specs.Texts.{line_end}

abbrev pub is_exclusion : Dependency → Bool
is_exclusion d = cycles.excludes d.grouping

-- a group excludes an instance
abbrev pub is_exclusion_of : GraphMember → Dependency → Bool
is_exclusion_of m d = is_exclusion d && list_any (λ e. is_cited e m) d.entities

abbrev pub any_excludes : GraphMember → List Dependency → Bool
any_excludes m ds = list_any (is_exclusion_of m) ds

-- an instance excludes another
abbrev pub excluded_by : Option (List Dependency) → GraphMember → Bool
excluded_by None m = false
excluded_by (Some ds) m = any_excludes m ds

abbrev pub excludes : GraphMember → GraphMember → Bool
excludes a b = excluded_by a.dependencies b

-- it excludes anything
abbrev pub any_exclusion : Option (List Dependency) → Bool
any_exclusion None = false
any_exclusion (Some ds) = list_any is_exclusion ds

abbrev pub has_exclusion : GraphMember → Bool
has_exclusion m = any_exclusion m.dependencies

-- two instances that are both to run
abbrev pub are_enabled : GraphMember → GraphMember → Bool
are_enabled a b = a.enabled && b.enabled && not (pointwise nat_eq a.name b.name)

-- they exclude each other, so each waits for the other
unfoldable pub clash : GraphMember → GraphMember → Bool
clash a b = are_enabled a b && excludes a b && excludes b a

abbrev pub clash_text : List ℕ → List ℕ
clash_text name =
    codes "Hint: It and " ++ name ++ (codes " exclude each other, and both are enabled: each waits for the other." ++ line_end)

unfoldable pub clash_hint : GraphMember → GraphMember → List ℕ
clash_hint a b = if clash a b then clash_text b.name else []

unfoldable pub clash_hints : List GraphMember → GraphMember → List ℕ
clash_hints ms m = if has_exclusion m then flat_map (clash_hint m) ms else []

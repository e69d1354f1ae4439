-- In which order services stop: none before those that require it.
use Rattle.std.specs.Prelude.{ℕ, zero, suc, ◌==◌, List, [], ◌∷◌, ◌++◌, map, filter, length, Bool, true, false, not, ◌&&◌, ◌||◌, if◌then◌else◌, Option, Some, None, is_some}
use Rattle.std.specs.List.{list_all, list_any}
use Rattle.smf_links.specs.declared.grouping.Grouping.{Grouping}
use Rattle.smf_links.specs.declared.grouping.Grouping.TheVariants.{RequireAll, RequireAny, OptionalAll, ExcludeAll}
use Rattle.smf_dep.specs.declared.dependency.Dependency.{Dependency}
use Rattle.smf_dep.specs.declared.member.GraphMember.{GraphMember}
use Rattle.smf_dep.specs.Verdicts.{is_cited, is_running}

-- ---- an instance and another

-- it runs, or a transition of it is under way
unfoldable pub is_going : GraphMember → Bool
is_going m = is_running m || is_some m.next

-- an instance may go on without one that it excludes
abbrev pub excludes : Grouping → Bool
excludes RequireAll = false
excludes RequireAny = false
excludes OptionalAll = false
excludes ExcludeAll = true

abbrev pub requires_by : GraphMember → Dependency → Bool
requires_by other d = not (excludes d.grouping) && list_any (λ entity. is_cited entity other) d.entities

abbrev pub requires_in : GraphMember → Option (List Dependency) → Bool
requires_in other None = false
requires_in other (Some ds) = list_any (requires_by other) ds

-- some dependency of an instance, which excludes nothing, names another one
abbrev pub requires : GraphMember → GraphMember → Bool
requires m other = not (m.instance == other.instance) && requires_in other m.dependencies

-- ---- the order

-- some other that goes requires it
unfoldable pub is_held : List GraphMember → GraphMember → Bool
is_held ms m = list_any (λ other. is_going other && requires other m) ms

-- each that goes is held: a circle
unfoldable pub all_held : List GraphMember → Bool
all_held ms = list_all (λ m. not (is_going m) || is_held ms m) ms

abbrev pub going : List GraphMember → List GraphMember
going ms = filter is_going ms

-- it goes, and is not held, unless all that go are
unfoldable pub is_free : List GraphMember → GraphMember → Bool
is_free ms m = is_going m && (all_held ms || not (is_held ms m))

-- those that may stop at once
abbrev pub free : List GraphMember → List GraphMember
free ms = filter (is_free ms) ms

-- ---- what is asked to stop next

-- it is to start, and would meanwhile
unfoldable pub is_waiting : GraphMember → Bool
is_waiting m = m.enabled && not (is_going m)

abbrev pub is_enabled : GraphMember → Bool
is_enabled m = m.enabled

-- those that wait, and those that are free; what was asked to stop is not enabled any more
abbrev pub asked : List GraphMember → List GraphMember
asked ms = filter is_waiting ms ++ filter is_enabled (free ms)

abbrev pub name_of : GraphMember → List ℕ
name_of m = m.name

abbrev pub next_stops : List GraphMember → List (List ℕ)
next_stops ms = map name_of (asked ms)

-- ---- the plan

abbrev pub is_kept : List GraphMember → GraphMember → Bool
is_kept ms m = not (is_free ms m)

-- all but the next batch
abbrev pub rest : List GraphMember → List GraphMember
rest ms = filter (is_kept ms) ms

abbrev pub any_going : List GraphMember → Bool
any_going ms = list_any is_going ms

-- at most so many batches: those that are free, and then those of the rest
unfoldable pub batches_in : ℕ → List GraphMember → List (List GraphMember)
batches_in zero ms = []
batches_in (suc k) ms = if any_going ms then free ms ∷ batches_in k (rest ms) else []

-- until none goes
abbrev pub batches : List GraphMember → List (List GraphMember)
batches ms = batches_in (length ms) ms

-- When a dependency group is met, when it is blocked, and when it stops a running instance, by smf(5).
use Rattle.std.specs.Prelude.{ℕ, zero, suc, nat_lt, nat_eq, List, length, filter, Bool, true, false, not, ◌&&◌, ◌||◌, Option, Some, None, is_some, is_none}
use Rattle.std.specs.Cmp.Lexicographic.{pointwise}
use Rattle.std.specs.List.{list_all, list_any}
use Rattle.smf_fmri.specs.Patterns.{service_of, instance_of}
use Rattle.smf_state.specs.declared.state.State.TheVariants.{Disabled, Offline, Maintenance}
use Rattle.smf_state.specs.Rows.{same_state}
use Rattle.smf_state.specs.States.{runs}
use Rattle.smf_links.specs.declared.grouping.Grouping.{Grouping}
use Rattle.smf_links.specs.declared.grouping.Grouping.TheVariants.{RequireAll, RequireAny, OptionalAll, ExcludeAll}
use Rattle.smf_links.specs.declared.grouping.RestartOn.{RestartOn}
use Rattle.smf_links.specs.declared.grouping.RestartOn.TheVariants as restarts
use Rattle.smf_dep.specs.declared.dependency.Dependency.{Dependency}
use Rattle.smf_dep.specs.declared.member.GraphMember.{GraphMember}
use Rattle.smf_dep.specs.declared.graph.Verdict.{Verdict}
use Rattle.smf_dep.specs.declared.graph.Verdict.TheVariants.{Met, Waiting, Blocked}

-- ---- entities

-- the name of an instance cites that instance, the name of a service each of its instances
abbrev pub cites_by : Bool → List ℕ → GraphMember → Bool
cites_by true entity m = pointwise nat_eq m.name entity
cites_by false entity m = pointwise nat_eq (service_of m.name) (service_of entity)

abbrev pub is_cited : List ℕ → GraphMember → Bool
is_cited entity m = cites_by (is_some (instance_of entity)) entity m

-- the instances that are there and that an entity stands for
abbrev pub members_of_entity : List GraphMember → List ℕ → List GraphMember
members_of_entity ms entity = filter (is_cited entity) ms

-- some instance that the entity stands for is so
abbrev pub has_one : (GraphMember → Bool) → List GraphMember → List ℕ → Bool
has_one is_so ms entity = list_any is_so (members_of_entity ms entity)

-- each instance that the entity stands for is so
abbrev pub has_all : (GraphMember → Bool) → List GraphMember → List ℕ → Bool
has_all is_so ms entity = list_all is_so (members_of_entity ms entity)

-- ---- an instance by its state

abbrev pub is_running : GraphMember → Bool
is_running m = runs m.state

abbrev pub is_off : GraphMember → Bool
is_off m = same_state m.state Disabled || same_state m.state Maintenance

-- it is not to run, or it can't
abbrev pub is_idle : GraphMember → Bool
is_idle m = not m.enabled || same_state m.state Maintenance

-- it is to run, and does not yet
abbrev pub is_waiting : GraphMember → Bool
is_waiting m = m.enabled && same_state m.state Offline && is_none m.next

-- ---- blocked and parked

-- a group is not met and can't be by waiting alone; `parked` tells which instances won't run
abbrev pub blocks : Grouping → (GraphMember → Bool) → List GraphMember → List (List ℕ) → Bool
blocks RequireAll parked ms es = not (list_all (has_one is_running ms) es) && list_any (has_all parked ms) es
blocks RequireAny parked ms es = not (list_any (has_one is_running ms) es) && list_all (has_all parked ms) es
blocks OptionalAll parked ms es = false
blocks ExcludeAll parked ms es = not (list_all (has_all is_off ms) es) && list_any (has_one is_running ms) es

abbrev pub is_blocked : (GraphMember → Bool) → List GraphMember → Dependency → Bool
is_blocked parked ms d = blocks d.grouping parked ms d.entities

abbrev pub any_blocked : (GraphMember → Bool) → List GraphMember → Option (List Dependency) → Bool
any_blocked parked ms None = false
any_blocked parked ms (Some ds) = list_any (is_blocked parked ms) ds

-- an instance is parked if it is idle, or if it waits and one of its groups is blocked in a round less
unfoldable pub parked_in : ℕ → List GraphMember → GraphMember → Bool
parked_in zero ms m = is_idle m
parked_in (suc k) ms m = is_idle m || (is_waiting m && any_blocked (parked_in k ms) ms m.dependencies)

-- in as many rounds as there are instances
abbrev pub is_parked : List GraphMember → GraphMember → Bool
is_parked ms m = parked_in (length ms) ms m

-- ---- verdicts

abbrev pub runs_or_parked : List GraphMember → GraphMember → Bool
runs_or_parked ms m = is_running m || is_parked ms m

abbrev pub meets : Grouping → List GraphMember → List (List ℕ) → Bool
meets RequireAll ms es = list_all (has_one is_running ms) es
meets RequireAny ms es = list_any (has_one is_running ms) es
meets OptionalAll ms es = list_all (has_all (runs_or_parked ms) ms) es
meets ExcludeAll ms es = list_all (has_all is_off ms) es

abbrev pub is_met : List GraphMember → Dependency → Bool
is_met ms d = meets d.grouping ms d.entities

abbrev pub verdict_by : Bool → Bool → Verdict
verdict_by true blocked = Met
verdict_by false true = Blocked
verdict_by false false = Waiting

unfoldable pub verdict : List GraphMember → Dependency → Verdict
verdict ms d = verdict_by (is_met ms d) (is_blocked (is_parked ms) ms d)

-- each group of an instance is met; if one can't be read none is
abbrev pub all_met_in : List GraphMember → Option (List Dependency) → Bool
all_met_in ms None = false
all_met_in ms (Some ds) = list_all (is_met ms) ds

unfoldable pub all_met : List GraphMember → GraphMember → Bool
all_met ms m = all_met_in ms m.dependencies

-- ---- stops of a running instance

-- by the revisions of an instance that is cited: a stop by an error, another stop, a refresh, all after the base
abbrev pub is_event : RestartOn → ℕ → GraphMember → Bool
is_event restarts.Nothing base m = false
is_event restarts.Error base m = nat_lt base m.err
is_event restarts.Restart base m = nat_lt base m.err || nat_lt base m.stop
is_event restarts.Refresh base m = nat_lt base m.err || nat_lt base m.stop || nat_lt base m.refresh

-- if an instance is excluded, only its start counts
abbrev pub is_start_event : RestartOn → ℕ → GraphMember → Bool
is_start_event restarts.Nothing base m = false
is_start_event _ base m = nat_lt base m.start

abbrev pub stops_by : Grouping → RestartOn → ℕ → GraphMember → Bool
stops_by ExcludeAll restart_on base m = is_start_event restart_on base m
stops_by _ restart_on base m = is_event restart_on base m

unfoldable pub must_stop : List GraphMember → Dependency → ℕ → Bool
must_stop ms d base = list_any (has_one (stops_by d.grouping d.restart_on base) ms) d.entities

abbrev pub any_must_stop : List GraphMember → ℕ → Option (List Dependency) → Bool
any_must_stop ms base None = false
any_must_stop ms base (Some ds) = list_any (λ d. must_stop ms d base) ds

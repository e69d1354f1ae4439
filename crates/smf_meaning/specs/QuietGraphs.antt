-- Graphs in which nothing is left to do.
use Rattle.std.specs.Prelude.{◌≡◌, ℕ, List, [], ◌∷◌, Bool, true, false, ◌&&◌, ◌||◌, Option, Some, None, is_some}
use Rattle.std.specs.List.{list_any}
use Rattle.smf_state.specs.declared.state.State.TheVariants.{Disabled}
use Rattle.smf_state.specs.Rows.{same_state}
use Rattle.smf_links.specs.declared.grouping.Grouping.TheVariants.{ExcludeAll}
use Rattle.smf_links.specs.declared.grouping.RestartOn.TheVariants.{Nothing}
use Rattle.smf_dep.specs.declared.dependency.Dependency.{Dependency}
use Rattle.smf_dep.specs.declared.member.GraphMember.{GraphMember}
use Rattle.smf_dep.specs.Cycles.{excludes, IsAmong, on_cycle}
use Rattle.smf_dep.specs.Verdicts.{all_met, is_cited, is_off, is_parked, is_running, is_waiting}

-- its groups can be read, not each of them is met, and it does not depend on itself
pub record WaitsForOthers (ms : List GraphMember) (m : GraphMember) : Type 0 where
  pub readable : is_some m.dependencies ≡ true
  pub unmet : all_met ms m ≡ false
  pub acyclic : on_cycle ms m ≡ false

-- it runs, is off or waits for others; it runs only if it is enabled, and is disabled only if it is not
pub record IsQuietMember (ms : List GraphMember) (m : GraphMember) : Type 0 where
  pub still : m.next ≡ None
  pub settled : (is_running m || is_off m || is_waiting m) ≡ true
  pub runs : is_running m ≡ true → m.enabled ≡ true
  pub disabled : same_state m.state Disabled ≡ true → m.enabled ≡ false
  pub waits : is_waiting m ≡ true → WaitsForOthers ms m

pub record IsQuietGraph (ms : List GraphMember) : Type 0 where
  pub each : (m : GraphMember) → IsAmong m ms → IsQuietMember ms m

-- ---- instances that exclude each other

-- an exclude_all group cites an instance
abbrev pub keeps_out : GraphMember → Dependency → Bool
keeps_out m d = excludes d.grouping && list_any (λ e. is_cited e m) d.entities

abbrev pub kept_out_by : Option (List Dependency) → GraphMember → Bool
kept_out_by None m = false
kept_out_by (Some ds) m = list_any (keeps_out m) ds

-- no instance that waits excludes another that waits
abbrev pub NoneWaitsForWaiting : List GraphMember → Type 0
NoneWaitsForWaiting ms = (m n : GraphMember) → IsAmong m ms → IsAmong n ms → is_waiting m ≡ true → is_waiting n ≡ true
    → kept_out_by m.dependencies n ≡ false

-- it depends on nothing but that an instance is off
abbrev pub excluding : List ℕ → Option (List Dependency)
excluding name =
    Some (record { grouping = ExcludeAll; restart_on = Nothing; entities = name ∷ [] } ∷ [])

-- both wait, each for the other to be off
pub record ExcludeEachOther (m n : GraphMember) : Type 0 where
  pub first_waits : is_waiting m ≡ true
  pub second_waits : is_waiting n ≡ true
  pub first_excludes : m.dependencies ≡ excluding n.name
  pub second_excludes : n.dependencies ≡ excluding m.name

-- the graph of these two is quiet, and neither of them runs or is parked
pub record AreStuck (m n : GraphMember) : Type 0 where
  pub quiet : IsQuietGraph (m ∷ n ∷ [])
  pub first_idle : is_running m ≡ false
  pub second_idle : is_running n ≡ false
  pub first_free : is_parked (m ∷ n ∷ []) m ≡ false
  pub second_free : is_parked (m ∷ n ∷ []) n ≡ false

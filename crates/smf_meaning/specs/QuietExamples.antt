-- Small graphs in which nothing is left to do.
use Rattle.std.specs.Prelude.{◌≡◌, ℕ, List, [], ◌∷◌, Bool, true, false, codes, Option, Some, None}
use Rattle.smf_state.specs.declared.state.State.{State}
use Rattle.smf_state.specs.declared.state.State.TheVariants.{Disabled, Offline}
use Rattle.smf_links.specs.declared.grouping.Grouping.TheVariants.{RequireAll}
use Rattle.smf_links.specs.declared.grouping.RestartOn.TheVariants.{Nothing}
use Rattle.smf_dep.specs.declared.dependency.Dependency.{Dependency}
use Rattle.smf_dep.specs.declared.member.GraphMember.{GraphMember}
use Rattle.smf_dep.specs.Verdicts.{is_parked}
use Rattle.smf_meaning.specs.QuietGraphs.{excluding, IsQuietGraph, NoneWaitsForWaiting}

abbrev pub member : List ℕ → Bool → State → Option (List Dependency) → GraphMember
member name enabled state dependencies =
    record {
      instance = 0;
      name = name;
      enabled = enabled;
      state = state;
      next = None;
      base = 0;
      err = 0;
      stop = 0;
      refresh = 0;
      start = 0;
      composed = [];
      dependencies = dependencies;
    }

abbrev pub requiring : List ℕ → Option (List Dependency)
requiring name =
    Some (record { grouping = RequireAll; restart_on = Nothing; entities = name ∷ [] } ∷ [])

-- ---- one that is off parks two

abbrev pub database : GraphMember
database = member (codes "svc:/data:a") false Disabled (Some [])

abbrev pub shop : GraphMember
shop = member (codes "svc:/shop:a") true Offline (requiring (codes "svc:/data:a"))

-- by its service
abbrev pub report : GraphMember
report = member (codes "svc:/list:a") true Offline (requiring (codes "svc:/shop"))

abbrev pub one_is_off : List GraphMember
one_is_off = report ∷ shop ∷ database ∷ []

pub record ParksTwo : Type 0 where
  pub quiet : IsQuietGraph one_is_off
  pub apart : NoneWaitsForWaiting one_is_off
  pub near : is_parked one_is_off shop ≡ true
  pub far : is_parked one_is_off report ≡ true

-- ---- two exclude each other

abbrev pub day : GraphMember
day = member (codes "svc:/day:a") true Offline (excluding (codes "svc:/night:a"))

abbrev pub night : GraphMember
night = member (codes "svc:/night:a") true Offline (excluding (codes "svc:/day:a"))

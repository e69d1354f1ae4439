-- The events that stop a running instance, told by the history in place of the rows.
use Rattle.std.specs.Prelude.{◌≡◌, ◌≤◌, ℕ, nat_eq, List, Bool, true, false, Some, is_some}
use Rattle.std.specs.Cmp.Lexicographic.{pointwise}
use Rattle.std.specs.List.{Any}
use Rattle.smf_fmri.specs.Patterns.{service_of, instance_of}
use Rattle.smf_model.specs.declared.command.Command.{Command}
use Rattle.smf_model.specs.declared.held.Instance.{Instance}
use Rattle.smf_model.specs.Dates.{EventKind, ErrorStop, OtherStop, Refreshed, Started}
use Rattle.smf_model.specs.Events.{Happened}
use Rattle.smf_model.specs.History.{holdings_after_commands}
use Rattle.smf_model.specs.Contents.{Holdings}
use Rattle.smf_model.specs.Laws.{IsNumbered}
use Rattle.smf_model.specs.Look.{instance}
use Rattle.smf_model.specs.Shown.{view}
use Rattle.smf_links.specs.declared.grouping.Grouping.{Grouping}
use Rattle.smf_links.specs.declared.grouping.Grouping.TheVariants.{RequireAll, RequireAny, OptionalAll, ExcludeAll}
use Rattle.smf_links.specs.declared.grouping.RestartOn.{RestartOn}
use Rattle.smf_links.specs.declared.grouping.RestartOn.TheVariants as restarts
use Rattle.smf_dep.specs.declared.dependency.Dependency.{Dependency}
use Rattle.smf_dep.specs.Members.{members}
use Rattle.smf_dep.specs.Verdicts.{must_stop}

-- ---- which events count

-- the events that count for a required or optional dependency: stops and refreshes, by restart_on
abbrev pub counts_where_asked : RestartOn → EventKind → Bool
counts_where_asked restarts.Error ErrorStop = true
counts_where_asked restarts.Restart ErrorStop = true
counts_where_asked restarts.Restart OtherStop = true
counts_where_asked restarts.Refresh ErrorStop = true
counts_where_asked restarts.Refresh OtherStop = true
counts_where_asked restarts.Refresh Refreshed = true
counts_where_asked _ _ = false

-- the events that count for an excluded dependency: a start, unless restart_on is nothing
abbrev pub counts_where_excluded : RestartOn → EventKind → Bool
counts_where_excluded restarts.Nothing kind = false
counts_where_excluded _ Started = true
counts_where_excluded _ _ = false

-- the table of svc.startd
abbrev pub counts : Grouping → RestartOn → EventKind → Bool
counts RequireAll restart_on kind = counts_where_asked restart_on kind
counts RequireAny restart_on kind = counts_where_asked restart_on kind
counts OptionalAll restart_on kind = counts_where_asked restart_on kind
counts ExcludeAll restart_on kind = counts_where_excluded restart_on kind

-- ---- which instances are cited

-- the name of an instance cites that instance, the name of a service each of its instances
abbrev pub is_named_by : Bool → List ℕ → List ℕ → Bool
is_named_by true entity name = pointwise nat_eq name entity
is_named_by false entity name = pointwise nat_eq (service_of name) (service_of entity)

-- an entity stands for the instance of this name
abbrev pub stands_for : List ℕ → List ℕ → Bool
stands_for entity name = is_named_by (is_some (instance_of entity)) entity name

-- some entity of a dependency stands for the instance of this name
abbrev pub IsCitedBy : Dependency → List ℕ → Type 0
IsCitedBy d name = Any (λ entity. stands_for entity name ≡ true) d.entities

-- ---- what stops

-- since the value h the history has an event that counts, at a revision after the base. The event is of an instance
-- that is there now and that the dependency cites
pub record MustStop (d : Dependency) (base : ℕ) (h : Holdings) (cs : List Command) : Type 0 where
  pub number : ℕ
  pub held : Instance
  pub kind : EventKind
  pub is_there : instance (holdings_after_commands h cs) number ≡ Some held
  pub cited : IsCitedBy d held.name
  pub counted : counts d.grouping d.restart_on kind ≡ true
  pub happened : Happened kind number base h cs

-- ---- rows and history

-- the graph of the value that the commands made of the first one says that the dependency stops
abbrev pub stops_now : Dependency → ℕ → Holdings → List Command → Bool
stops_now d base h cs = must_stop (members (view (holdings_after_commands h cs)).items) d base

abbrev pub IsTold : Dependency → ℕ → Holdings → List Command → Type 0
IsTold d base h cs = IsNumbered h → h.revision ≤ base → stops_now d base h cs ≡ true → MustStop d base h cs

abbrev pub IsShown : Dependency → ℕ → Holdings → List Command → Type 0
IsShown d base h cs = IsNumbered h → h.revision ≤ base → MustStop d base h cs → stops_now d base h cs ≡ true

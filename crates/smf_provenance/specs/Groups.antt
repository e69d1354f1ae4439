-- The dependencies of an instance, and how those that they cite stand.
use Rattle.std.specs.Prelude.{ℕ, nat_lt, Bool, true, false, List, [], ◌∷◌, ◌++◌, map, flat_map, if◌then◌else◌, Option, Some, None, Result, Ok, Err}
use Rattle.smf_value.specs.Groups.{GroupRecord}
use Rattle.smf_dep.specs.declared.dependency.Dependency.{Dependency}
use Rattle.smf_dep.specs.declared.fault.DependencyFault.{DependencyFault}
use Rattle.smf_dep.specs.declared.graph.Verdict.{Verdict}
use Rattle.smf_dep.specs.declared.graph.Verdict.TheVariants as verdicts
use Rattle.smf_dep.specs.declared.member.GraphMember.{GraphMember}
use Rattle.smf_dep.specs.Members.{implicit}
use Rattle.smf_dep.specs.Requirements.{read_groups}
use Rattle.smf_dep.specs.Verdicts.{is_cited, is_met, is_running}
use Rattle.smf_provenance.specs.declared.evidence.GroupEvidence.{GroupEvidence}
use Rattle.smf_provenance.specs.declared.evidence.Cited.{Cited}

abbrev pub says_met : Verdict → Bool
says_met verdicts.Met = true
says_met verdicts.Waiting = false
says_met verdicts.Blocked = false

-- the later of the last stop by an error and the last other stop
abbrev pub last_stop : GraphMember → ℕ
last_stop m = if nat_lt m.err m.stop then m.stop else m.err

abbrev pub cited_as : GraphMember → Cited
cited_as m =
    record { name = m.name; state = m.state; since = if is_running m then m.start else last_stop m }

-- what is found of an instance that may be there
abbrev pub at : {X : Type 0} → (GraphMember → List X) → Option GraphMember → List X
at f None = []
at f (Some m) = f m

-- an instance, if the entity stands for it
abbrev pub cited_if : List ℕ → GraphMember → List Cited
cited_if entity m = if is_cited entity m then cited_as m ∷ [] else []

-- the instances that an entity stands for
abbrev pub cited_for : List GraphMember → List ℕ → List Cited
cited_for ms entity = flat_map (cited_if entity) ms

abbrev pub cited_by : List GraphMember → Dependency → List Cited
cited_by ms d = flat_map (cited_for ms) d.entities

unfoldable pub group_told : List GraphMember → Option (List ℕ) → Dependency → GroupEvidence
group_told ms group d =
    record {
      group = group;
      grouping = d.grouping;
      restart_on = d.restart_on;
      is_met = is_met ms d;
      cited = cited_by ms d;
    }

abbrev pub group_read : List GraphMember → List ℕ → Result (List Dependency) DependencyFault → List GroupEvidence
group_read ms name (Ok ds) = map (group_told ms (Some name)) ds
group_read ms name (Err fault) = []

-- a group of type dependency; any other, and one that can't be read, asks for nothing
unfoldable pub of_group : List GraphMember → GroupRecord → List GroupEvidence
of_group ms g = group_read ms g.name (read_groups (g ∷ []))

-- an instance of another restarter than svc.startd wants that restarter's instance
unfoldable pub of_restarter : List GraphMember → List ℕ → List GroupEvidence
of_restarter ms owner = map (group_told ms None) (implicit owner)

-- all dependencies of an instance with these groups and this restarter
abbrev pub all_groups : List GraphMember → List GroupRecord → List ℕ → List GroupEvidence
all_groups ms gs owner = flat_map (of_group ms) gs ++ of_restarter ms owner

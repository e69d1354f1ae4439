-- What stops an instance, by how its groups are read.
use Rattle.std.proofs.Common.{◌≡◌, ℕ, List, [], ◌∷◌, ◌++◌, refl, ap, sym, ◌∙◌, append-nil}
use Rattle.std.specs.Prelude.{flat_map, Ok, Err}
use Rattle.smf_value.specs.Groups.{GroupRecord}
use Rattle.smf_dep.specs.declared.dependency.Dependency.{Dependency}
use Rattle.smf_dep.specs.declared.fault.DependencyFault.{DependencyFault}
use Rattle.smf_dep.specs.declared.member.GraphMember.{GraphMember}
use Rattle.smf_dep.specs.Requirements.{read_groups}
use Rattle.smf_provenance.specs.declared.evidence.GroupStop.{GroupStop}
use Rattle.smf_provenance.specs.declared.evidence.StopEvent.{StopEvent}
use Rattle.smf_provenance.specs.Stopped.{asked_stops, read_stops, stop_if_any, stops_of_group}

pub no_event : (name : List ℕ) (d : Dependency) (es : List StopEvent) (all : List GroupStop) → es ≡ []
    → all ≡ all ++ stop_if_any name d es
no_event name d es all e = sym (ap (λ l. all ++ stop_if_any name d l) e ∙ append-nil all)

pub some_event : (name : List ℕ) (d : Dependency) (es : List StopEvent) → (es ≡ [] → ⊥)
    → stop_if_any name d es
    ≡ record { group = name; grouping = d.grouping; restart_on = d.restart_on; events = es } ∷ []
some_event name d [] some = absurd (some refl)
some_event name d (e ∷ es) some = refl

pub group_asked : (ms : List GraphMember) (base : ℕ) (g : GroupRecord) (ds : List Dependency)
    → read_groups (g ∷ []) ≡ Ok ds → stops_of_group ms base g ≡ flat_map (asked_stops ms base g.name) ds
unfolding stops_of_group
group_asked ms base g ds e = ap (read_stops ms base g.name) e

pub group_unread : (ms : List GraphMember) (base : ℕ) (g : GroupRecord) (fault : DependencyFault)
    (all : List GroupStop) → read_groups (g ∷ []) ≡ Err fault → all ≡ all ++ stops_of_group ms base g
unfolding stops_of_group
group_unread ms base g fault all e = sym (ap (λ r. all ++ read_stops ms base g.name r) e ∙ append-nil all)

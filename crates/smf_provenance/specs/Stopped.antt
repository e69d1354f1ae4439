-- The evidence of an order to stop, by the view of the revision that it was decided on.
use Rattle.std.specs.Prelude.{ℕ, ◌==◌, nat_lt, List, [], ◌∷◌, flat_map, Bool, true, false, if◌then◌else◌, Option, Some, None, Result, Ok, Err, find, option_map, option_to_list}
use Rattle.smf_state.specs.declared.row.Row.{Row}
use Rattle.smf_state.specs.declared.state.Cause.{Cause}
use Rattle.smf_state.specs.declared.state.State.{State}
use Rattle.smf_state.specs.declared.state.State.TheVariants.{Maintenance as ToMaintenance}
use Rattle.smf_state.specs.declared.view.View.{View}
use Rattle.smf_state.specs.declared.view.ViewItem.{ViewItem}
use Rattle.smf_value.specs.Groups.{GroupRecord}
use Rattle.smf_links.specs.declared.grouping.Grouping.{Grouping}
use Rattle.smf_links.specs.declared.grouping.Grouping.TheVariants.{ExcludeAll}
use Rattle.smf_links.specs.declared.grouping.RestartOn.{RestartOn}
use Rattle.smf_links.specs.declared.grouping.RestartOn.TheVariants as restarts
use Rattle.smf_dep.specs.declared.dependency.Dependency.{Dependency}
use Rattle.smf_dep.specs.declared.fault.DependencyFault.{DependencyFault}
use Rattle.smf_dep.specs.declared.member.GraphMember.{GraphMember}
use Rattle.smf_dep.specs.Members.{member_of, members}
use Rattle.smf_dep.specs.Requirements.{read_groups}
use Rattle.smf_dep.specs.Verdicts.{is_cited}
use Rattle.smf_engine.specs.Orders.{asks, is_about}
use Rattle.smf_wire.specs.declared.order.Order.{Order}
use Rattle.smf_wire.specs.declared.order.What.{What}
use Rattle.smf_wire.specs.declared.order.What.TheVariants.{Stop}
use Rattle.smf_provenance.specs.declared.evidence.Ask.{Ask}
use Rattle.smf_provenance.specs.declared.evidence.Ask.TheVariants.{MaintenanceNow, Maintenance, Failed, Exited, Restart}
use Rattle.smf_provenance.specs.declared.evidence.EventKind.{EventKind}
use Rattle.smf_provenance.specs.declared.evidence.EventKind.TheVariants.{ErrorStop, OtherStop, Refreshed, Started}
use Rattle.smf_provenance.specs.declared.evidence.GroupStop.{GroupStop}
use Rattle.smf_provenance.specs.declared.evidence.StopEvent.{StopEvent}
use Rattle.smf_provenance.specs.declared.evidence.StopEvidence.{StopEvidence}
use Rattle.smf_provenance.specs.declared.evidence.StopReason.{StopReason}
use Rattle.smf_provenance.specs.declared.evidence.StopReason.TheVariants.{Asked, NotEnabled, Faulty, Groups}

-- ---- what svcadm or its restarter asks for

abbrev pub bit_of : Ask → ℕ
bit_of MaintenanceNow = 1
bit_of Maintenance = 2
bit_of Failed = 4
bit_of Exited = 8
bit_of Restart = 16

-- the first ask of a row that stops an instance
abbrev pub first_ask : Row → Option Ask
first_ask r =
    if asks r 1 then Some MaintenanceNow
    else if asks r 2 then Some Maintenance
    else if asks r 4 then Some Failed
    else if asks r 8 then Some Exited
    else if asks r 16 then Some Restart
    else None

-- ---- events of those that a group cites

-- a stop or a refresh after the base that counts, a stop by an error first
abbrev pub event_where_asked : RestartOn → ℕ → GraphMember → Option EventKind
event_where_asked restarts.Nothing base m = None
event_where_asked restarts.Error base m = if nat_lt base m.err then Some ErrorStop else None
event_where_asked restarts.Restart base m =
    if nat_lt base m.err then Some ErrorStop else if nat_lt base m.stop then Some OtherStop else None
event_where_asked restarts.Refresh base m =
    if nat_lt base m.err then Some ErrorStop
    else if nat_lt base m.stop then Some OtherStop
    else if nat_lt base m.refresh then Some Refreshed
    else None

abbrev pub event_where_excluded : RestartOn → ℕ → GraphMember → Option EventKind
event_where_excluded restarts.Nothing base m = None
event_where_excluded _ base m = if nat_lt base m.start then Some Started else None

abbrev pub event_by : Grouping → RestartOn → ℕ → GraphMember → Option EventKind
event_by ExcludeAll restart_on base m = event_where_excluded restart_on base m
event_by _ restart_on base m = event_where_asked restart_on base m

abbrev pub revision_of : GraphMember → EventKind → ℕ
revision_of m ErrorStop = m.err
revision_of m OtherStop = m.stop
revision_of m Refreshed = m.refresh
revision_of m Started = m.start

abbrev pub event_as : GraphMember → EventKind → StopEvent
event_as m kind = record { name = m.name; kind = kind; revision = revision_of m kind }

abbrev pub event_of : Dependency → ℕ → GraphMember → Option StopEvent
event_of d base m = option_map (event_as m) (event_by d.grouping d.restart_on base m)

-- that of an instance, if the entity stands for it
abbrev pub event_if : Dependency → ℕ → List ℕ → GraphMember → List StopEvent
event_if d base entity m = if is_cited entity m then option_to_list (event_of d base m) else []

abbrev pub events_for : List GraphMember → Dependency → ℕ → List ℕ → List StopEvent
events_for ms d base entity = flat_map (event_if d base entity) ms

unfoldable pub events_of : List GraphMember → Dependency → ℕ → List StopEvent
events_of ms d base = flat_map (events_for ms d base) d.entities

-- ---- groups that stop it

abbrev pub stop_if_any : List ℕ → Dependency → List StopEvent → List GroupStop
stop_if_any name d [] = []
stop_if_any name d (e ∷ es) =
    record { group = name; grouping = d.grouping; restart_on = d.restart_on; events = e ∷ es } ∷ []

abbrev pub asked_stops : List GraphMember → ℕ → List ℕ → Dependency → List GroupStop
asked_stops ms base name d = stop_if_any name d (events_of ms d base)

abbrev pub read_stops : List GraphMember → ℕ → List ℕ → Result (List Dependency) DependencyFault → List GroupStop
read_stops ms base name (Ok ds) = flat_map (asked_stops ms base name) ds
read_stops ms base name (Err fault) = []

unfoldable pub stops_of_group : List GraphMember → ℕ → GroupRecord → List GroupStop
stops_of_group ms base g = read_stops ms base g.name (read_groups (g ∷ []))

abbrev pub all_stops : List GraphMember → ℕ → List GroupRecord → List GroupStop
all_stops ms base gs = flat_map (stops_of_group ms base) gs

-- ---- the reason

abbrev pub enabled_reason : State → List GroupStop → StopReason
enabled_reason ToMaintenance gs = Faulty
enabled_reason _ gs = Groups gs

abbrev pub unasked_reason : Bool → State → List GroupStop → StopReason
unasked_reason true to gs = enabled_reason to gs
unasked_reason false to gs = NotEnabled

-- an ask comes first; then that it is not enabled, a fault, and its groups
abbrev pub reason_by : Option Ask → Bool → State → List GroupStop → StopReason
reason_by (Some ask) enabled to gs = Asked ask
reason_by None enabled to gs = unasked_reason enabled to gs

abbrev pub stop_reason : List GraphMember → ViewItem → GraphMember → State → StopReason
stop_reason ms i m to = reason_by (first_ask i.row) i.enabled to (all_stops ms i.row.base m.composed)

-- ---- the evidence

abbrev pub stop_by_item : ℕ → List GraphMember → State → Cause → Option ViewItem → Option StopEvidence
stop_by_item revision ms to cause None = None
stop_by_item revision ms to cause (Some i) =
    Some (record {
      instance = i.instance;
      name = i.name;
      revision = revision;
      to = to;
      cause = cause;
      reason = stop_reason ms i (member_of i) to;
    })

-- none by the view of another revision
unfoldable pub stop_by_view : View → ℕ → ℕ → State → Cause → Option StopEvidence
stop_by_view v revision n to cause =
    if v.revision == revision
    then stop_by_item revision (members v.items) to cause (find (is_about n) v.items)
    else None

abbrev pub stop_by_what : View → ℕ → ℕ → What → Option StopEvidence
stop_by_what v revision n (Stop to cause call) = stop_by_view v revision n to cause
stop_by_what v revision n what = None

-- of another order there is none
unfoldable pub stop_evidence : View → Order → Option StopEvidence
stop_evidence v o = stop_by_what v o.revision o.instance o.what

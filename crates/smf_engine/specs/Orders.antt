-- The orders of svc.startd's graph, by what it sees of the instances.
use Rattle.std.specs.Prelude.{ℕ, ◌==◌, ◌&&◌, ◌||◌, not, nat_lt, List, [], ◌∷◌, Bool, true, false, if◌then◌else◌, Option, Some, None, find, option_map, slice_get, Ok, Err}
use Rattle.std.specs.Int.RustNames.{bit_and}
use Rattle.std.specs.List.{filter_map}
use Rattle.smf_contract.specs.declared.cookie.Method.{Method}
use Rattle.smf_contract.specs.declared.cookie.Method.TheVariants as methods
use Rattle.smf_state.specs.declared.row.Row.{Row}
use Rattle.smf_state.specs.declared.state.State.{State}
use Rattle.smf_state.specs.declared.state.State.TheVariants.{Uninitialized, Disabled, Offline, Online, Degraded, Maintenance}
use Rattle.smf_state.specs.declared.state.Cause.{Cause}
use Rattle.smf_state.specs.declared.state.Cause.TheVariants.{Error, NonError, Admin, Config}
use Rattle.smf_state.specs.declared.view.ViewItem.{ViewItem}
use Rattle.smf_state.specs.Rows.{same_state}
use Rattle.smf_state.specs.States.{runs}
use Rattle.smf_method.specs.declared.call.MethodCall.{MethodCall}
use Rattle.smf_dep.specs.declared.graph.Finding.{Finding}
use Rattle.smf_dep.specs.declared.member.GraphMember.{GraphMember}
use Rattle.smf_dep.specs.Members.{member_of, members}
use Rattle.smf_dep.specs.Methods.{MethodRead, has_unfit_methods, method_by}
use Rattle.smf_dep.specs.Places.{finding_of}
use Rattle.smf_state.specs.Patched.{view_after_changes}
use Rattle.smf_wire.specs.declared.message.Message.{Message}
use Rattle.smf_wire.specs.declared.message.Message.TheVariants as messages
use Rattle.smf_wire.specs.declared.message.ViewChanges.{ViewChanges}
use Rattle.smf_wire.specs.declared.order.Order.{Order}
use Rattle.smf_wire.specs.declared.order.What.{What}
use Rattle.smf_wire.specs.declared.order.What.TheVariants as whats
use Rattle.smf_engine.specs.declared.decisions.Decision.{Decision}
use Rattle.smf_engine.specs.declared.decisions.Decision.TheVariants.{To, Start, Stop, Refresh}
use Rattle.smf_state.specs.declared.view.View.{View}

-- ---- methods

-- a method of the running snapshot, as it is read
abbrev pub method_in : ViewItem → GraphMember → Method → MethodRead
method_in i m method = method_by i.row.owner i.name m.composed method

-- one that can't be read counts as none
abbrev pub call_in : MethodRead → Option MethodCall
call_in (Ok (Some read)) = Some read.call
call_in (Ok None) = None
call_in (Err fault) = None

-- ---- decisions

abbrev pub first_state : Bool → State
first_state enabled = if enabled then Offline else Disabled

abbrev pub asks : Row → ℕ → Bool
asks r bit = bit_and r.asks.0 bit == bit

-- a running instance is stopped, any other goes there at once
abbrev pub stop_or_move : State → State → Cause → Bool → Decision
stop_or_move state to cause by_method = if runs state then Stop to cause by_method else To to

abbrev pub state_after_clear : ViewItem → State
state_after_clear i = if same_state i.row.state Degraded then Online else first_state i.enabled

-- the decision that svcadm(1M) or the restarter of an instance asks for, the first that applies
abbrev pub decision_by_asks : ViewItem → Option Decision
decision_by_asks i =
    if asks i.row 1 then Some (stop_or_move i.row.state Maintenance Admin false)
    else if asks i.row 2 then Some (stop_or_move i.row.state Maintenance Admin true)
    else if asks i.row 4 then Some (Stop Offline Error true)
    else if asks i.row 8 then Some (Stop Offline NonError false)
    else if asks i.row 16 then Some (Stop Offline NonError true)
    else if asks i.row 32 then Some (To (state_after_clear i))
    else if asks i.row 64 then Some (To Degraded)
    else if asks i.row 128 then Some Refresh
    else None

-- the decision if an instance is not enabled
abbrev pub decision_if_disabled : State → Option Decision
decision_if_disabled Offline = Some (To Disabled)
decision_if_disabled Maintenance = Some (To Disabled)
decision_if_disabled Online = Some (Stop Disabled Admin true)
decision_if_disabled Degraded = Some (Stop Disabled Admin true)
decision_if_disabled _ = None

-- a fault of the instance: its restarter, a dependency or a method can't be read, it has no start method, or it depends
-- on itself
abbrev pub has_fault : ViewItem → GraphMember → Finding → Bool
has_fault i m f =
    not i.readable || not f.readable || f.on_cycle || has_unfit_methods i.row.owner i.name m.composed

-- the decision of its dependencies on an enabled instance without a fault
abbrev pub by_dependencies : Finding → State → Option Decision
by_dependencies f Offline = if f.all_met then Some Start else None
by_dependencies f _ = if f.must_stop then Some (Stop Offline NonError true) else None

abbrev pub decision_by_fault : Bool → Finding → State → Option Decision
decision_by_fault true f state = Some (stop_or_move state Maintenance Config false)
decision_by_fault false f state = by_dependencies f state

-- an enabled instance of which nothing is asked
abbrev pub decision_if_enabled : ViewItem → GraphMember → Finding → State → Option Decision
decision_if_enabled i m f Disabled = Some (To Offline)
decision_if_enabled i m f Offline = decision_by_fault (has_fault i m f) f Offline
decision_if_enabled i m f Online = decision_by_fault (has_fault i m f) f Online
decision_if_enabled i m f Degraded = decision_by_fault (has_fault i m f) f Degraded
decision_if_enabled i m f _ = None

abbrev pub decision_without_asks : ViewItem → GraphMember → Finding → Bool → Option Decision
decision_without_asks i m f true = decision_if_enabled i m f i.row.state
decision_without_asks i m f false = decision_if_disabled i.row.state

abbrev pub asked_or : ViewItem → GraphMember → Finding → Option Decision → Option Decision
asked_or i m f (Some decision) = Some decision
asked_or i m f None = decision_without_asks i m f i.enabled

-- the first row that applies, nothing being under way
abbrev pub decision : ViewItem → GraphMember → Finding → Option Decision
decision i m f =
    if same_state i.row.state Uninitialized then Some (To (first_state i.enabled))
    else asked_or i m f (decision_by_asks i)

-- ---- orders

abbrev pub start_by_method : MethodRead → Option What
start_by_method (Ok (Some read)) = Some (whats.Start read.call read.duration read.ignore)
start_by_method (Ok None) = None
start_by_method (Err fault) = None

abbrev pub call_if : Bool → MethodRead → Option MethodCall
call_if true read = call_in read
call_if false read = None

abbrev pub what_of : ViewItem → GraphMember → Decision → Option What
what_of i m (To state) = Some (whats.To state)
what_of i m Start = start_by_method (method_in i m methods.Start)
what_of i m (Stop to cause by_method) = Some (whats.Stop to cause (call_if by_method (method_in i m methods.Stop)))
what_of i m Refresh = Some (whats.Refresh (call_in (method_in i m methods.Refresh)))

abbrev pub what_by : ViewItem → GraphMember → Option Decision → Option What
what_by i m None = None
what_by i m (Some order_by_view) = what_of i m order_by_view

abbrev pub order_to : ℕ → ViewItem → Option What → Option Order
order_to revision i None = None
order_to revision i (Some what) =
    Some (record {
      restarter = i.row.owner;
      instance = i.instance;
      name = i.name;
      revision = revision;
      row = i.row;
      what = what;
    })

abbrev pub order_under : ℕ → ViewItem → GraphMember → Finding → Option State → Option Order
order_under revision i m f None = order_to revision i (what_by i m (decision i m f))
order_under revision i m f (Some next) = None

abbrev pub order_with : ℕ → ViewItem → Option GraphMember → Option Finding → Option Order
order_with revision i (Some m) (Some f) = order_under revision i m f i.row.next
order_with revision i m f = None

-- by the instance at a place
abbrev pub order_placed : ℕ → ViewItem → List GraphMember → ℕ → Option Order
order_placed revision i ms place =
    order_with revision i (slice_get ms place) (option_map (finding_of ms) (slice_get ms place))

-- the order for an instance, by the items of a view of a revision
unfoldable pub order : ℕ → List ViewItem → ViewItem → Option Order
order revision items i = order_under revision i (member_of i) (finding_of (members items) (member_of i)) i.row.next

-- all orders, in the order of the view's instances
abbrev pub orders : ℕ → List ViewItem → List Order
orders revision items = filter_map (order revision items) items

-- ---- the view that is held

abbrev pub newer : Option View → View → Option View
newer None seen = Some seen
newer (Some held) seen = if nat_lt held.revision seen.revision then Some seen else Some held

-- changes go on from the view of the revision that they begin with
abbrev pub goes_on : View → ViewChanges → Bool
goes_on v c = (v.revision == c.from) && not (nat_lt c.to c.from)

-- the view that is held, with the changes if they go on from it
abbrev pub with_changes : Option View → ViewChanges → Option View
with_changes None c = None
with_changes (Some v) c = if goes_on v c then Some (view_after_changes v c.to c.items) else Some v

-- the graph's question: for the view, or for what changed since the one that it holds
abbrev pub question : Option View → Message
question None = messages.AskView
question (Some v) = messages.AskChange v.revision

abbrev pub orders_seen : Option View → List Order
orders_seen None = []
orders_seen (Some seen) = orders seen.revision seen.items

abbrev pub is_none_left : List Order → Bool
is_none_left [] = true
is_none_left (o ∷ os) = false

-- nothing is ordered of a view
abbrev pub has_no_orders : View → Bool
has_no_orders v = is_none_left (orders v.revision v.items)

abbrev pub is_about : ℕ → ViewItem → Bool
is_about instance i = i.instance == instance

abbrev pub order_in : ℕ → List ViewItem → Option ViewItem → Option Order
order_in revision items None = None
order_in revision items (Some i) = order revision items i

abbrev pub order_by_view : Option View → ℕ → Option Order
order_by_view None instance = None
order_by_view (Some seen) instance = order_in seen.revision seen.items (find (is_about instance) seen.items)

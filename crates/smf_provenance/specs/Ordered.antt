-- What the evidence of a stop claims, by the order that was decided.
use Rattle.std.specs.Prelude.{◌≡◌, ◌≢◌, ℕ, List, [], ◌∷◌, Bool, true, false, Option, Some, None, Ok, find}
use Rattle.std.specs.List.{AllByRecursion}
use Rattle.smf_state.specs.declared.state.Cause.{Cause}
use Rattle.smf_state.specs.declared.state.State.{State}
use Rattle.smf_state.specs.declared.view.View.{View}
use Rattle.smf_state.specs.declared.view.ViewItem.{ViewItem}
use Rattle.smf_dep.specs.declared.dependency.Dependency.{Dependency}
use Rattle.smf_dep.specs.declared.member.GraphMember.{GraphMember}
use Rattle.smf_dep.specs.Members.{member_of, members}
use Rattle.smf_dep.specs.Places.{finding_of}
use Rattle.smf_dep.specs.Requirements.{read_groups}
use Rattle.smf_dep.specs.Verdicts.{must_stop}
use Rattle.smf_engine.specs.Orders.{asks, has_fault, is_about, order_by_view}
use Rattle.smf_value.specs.Groups.{GroupRecord}
use Rattle.smf_wire.specs.declared.order.Order.{Order}
use Rattle.smf_wire.specs.declared.order.What.{What}
use Rattle.smf_wire.specs.declared.order.What.TheVariants.{Stop}
use Rattle.smf_provenance.specs.declared.evidence.GroupStop.{GroupStop}
use Rattle.smf_provenance.specs.declared.evidence.StopEvidence.{StopEvidence}
use Rattle.smf_provenance.specs.declared.evidence.StopReason.{StopReason}
use Rattle.smf_provenance.specs.declared.evidence.StopReason.TheVariants.{Asked, NotEnabled, Faulty, Groups}
use Rattle.smf_provenance.specs.Claims.{IsAmong}
use Rattle.smf_provenance.specs.Stopped.{bit_of, events_of, stop_evidence}

-- one of the groups, of this name, stops the instance, by these events
pub record IsStopping (ms : List GraphMember) (gs : List GroupRecord) (base : ℕ) (g : GroupStop) : Type 0 where
  pub group : GroupRecord
  pub among : IsAmong group gs
  pub named : g.group ≡ group.name
  pub dependency : Dependency
  pub asked : read_groups (group ∷ []) ≡ Ok (dependency ∷ [])
  pub stops : must_stop ms dependency base ≡ true
  pub events : g.events ≡ events_of ms dependency base

-- some do
pub record AreStopping (ms : List GraphMember) (gs : List GroupRecord) (base : ℕ) (told : List GroupStop) : Type 0 where
  pub some : told ≢ []
  pub each : AllByRecursion (IsStopping ms gs base) told

abbrev pub ReasonHolds : List GraphMember → ViewItem → StopReason → Type 0
ReasonHolds ms i (Asked ask) = asks i.row (bit_of ask) ≡ true
ReasonHolds ms i NotEnabled = i.enabled ≡ false
ReasonHolds ms i Faulty = has_fault i (member_of i) (finding_of ms (member_of i)) ≡ true
ReasonHolds ms i (Groups told) = AreStopping ms (member_of i).composed i.row.base told

-- the view gives evidence of the order that was decided, which holds
pub record IsStopExplained (v : View) (o : Order) (to : State) (cause : Cause) : Type 0 where
  pub evidence : StopEvidence
  pub given : stop_evidence v o ≡ Some evidence
  pub revision : evidence.revision ≡ o.revision
  pub to_is : evidence.to ≡ to
  pub cause_is : evidence.cause ≡ cause
  pub item : ViewItem
  pub found : find (is_about o.instance) v.items ≡ Some item
  pub name : evidence.name ≡ item.name
  pub reason : ReasonHolds (members v.items) item evidence.reason

abbrev pub WhatExplained : View → Order → What → Type 0
WhatExplained v o (Stop to cause call) = IsStopExplained v o to cause
WhatExplained v o what = Unit {0}

-- an order that a view decides is explained if it is a stop
abbrev pub StopsExplained : View → Order → Type 0
StopsExplained v o = order_by_view (Some v) o.instance ≡ Some o → WhatExplained v o o.what

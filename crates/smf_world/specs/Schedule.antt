-- The schedule: the order in which events happen until nothing is left to do. The results of the turns of restarters
-- for their instances depend on who runs their methods, and are not said here.
use Rattle.std.specs.Prelude.{ℕ, zero, suc, ◌+◌, ◌-◌, ◌==◌, ◌&&◌, ◌||◌, not, nat_eq, nat_lt, List, [], ◌∷◌, ◌++◌, length, map, drop, filter, replicate, Bool, true, false, if◌then◌else◌, Option, Some, None, is_some, option_to_list}
use Rattle.std.specs.Cmp.Lexicographic.{pointwise}
use Rattle.std.specs.List.{list_all, list_any}
use Rattle.smf_fmri.specs.ByKey.{By, by_text, put_all}
use Rattle.smf_contract.specs.declared.contract.Report.{Report}
use Rattle.smf_contract.specs.declared.event.ContractEvent.{ContractEvent}
use Rattle.smf_contract.specs.Entries.{contract, report_of_event}
use Rattle.smf_state.specs.OwnName.{startd}
use Rattle.smf_model.specs.Shown.{all_read, view}
use Rattle.smf_engine.specs.Orders.{has_no_orders}
use Rattle.smf_wire.specs.declared.message.Message.{Message}
use Rattle.smf_restarter.specs.declared.reply.Call.{Call}
use Rattle.smf_restarter.specs.declared.reply.Call.TheVariants as asks
use Rattle.smf_restarter.specs.Knowledge.{Knowledge}
use Rattle.smf_restarter.specs.Ticks.{at_rest, reply_to_tick}
use Rattle.smf_world.specs.declared.event.Event.{Event}
use Rattle.smf_world.specs.declared.event.Event.TheVariants as events
use Rattle.smf_world.specs.declared.schedule.Deed.{Deed}
use Rattle.smf_world.specs.declared.schedule.Deed.TheVariants as deeds
use Rattle.smf_world.specs.declared.schedule.EventKey.{EventKey}
use Rattle.smf_world.specs.declared.schedule.Turn.{Turn}
use Rattle.smf_world.specs.declared.schedule.Turn.TheVariants as turns
use Rattle.smf_world.specs.Happens.{happens}
use Rattle.smf_world.specs.Worked.{holder, is_launched, restarter, sent_at}
use Rattle.smf_world.specs.World.{World}

-- a world with the marks and counts of its schedule. `delivered` are the places of the messages that were delivered,
-- newest first; `early` those that were delivered before their turn. `next` is the place of the next message in the
-- order of sending, and `lost` are the places of those that are lost. `refuse` counts the spawns that are still to be
-- refused, and `looked` the events of the table that were looked at. `unheard` are those of them that no holder has
-- heard, and `heard` are events that a holder heard before they were looked at
pub record Progress : Type 0 where
  pub world : World
  pub delivered : List ℕ
  pub early : List ℕ
  pub next : ℕ
  pub lost : List ℕ
  pub refuse : ℕ
  pub looked : ℕ
  pub unheard : List ContractEvent
  pub heard : List EventKey

-- a world of which nothing was delivered yet
abbrev pub begun_at : World → Progress
begun_at w = record {
  world = w;
  delivered = [];
  early = [];
  next = 0;
  lost = [];
  refuse = 0;
  looked = 0;
  unheard = [];
  heard = [];
}

-- ---- events

abbrev pub event_key : ℕ → ℕ → EventKey
event_key contract number = record { contract = contract; number = number }

abbrev pub key_of : ContractEvent → EventKey
key_of e = event_key e.contract e.number

abbrev pub has_key : EventKey → ContractEvent → Bool
has_key key e = e.contract == key.contract && e.number == key.number

abbrev pub has_other_key : EventKey → ContractEvent → Bool
has_other_key key e = not (has_key key e)

-- a message is delivered before its turn, unless its turn has been
abbrev pub early_with : Bool → ℕ → List ℕ → List ℕ
early_with true place places = places
early_with false place places = places ++ place ∷ []

-- an event that its holder hears is among those that were looked at, or it is heard early
abbrev pub mark_heard : Bool → EventKey → Progress → Progress
mark_heard true key p = record p { unheard = filter (has_other_key key) p.unheard }
mark_heard false key p = record p { heard = p.heard ++ key ∷ [] }

-- an event is marked: a report if a holder heard it, a boot if it made a revision. At a boot the contracts are gone,
-- and with them their events
abbrev pub progress_with_mark : Event → Bool → Bool → Progress → Progress
progress_with_mark (events.Deliver place) heard new p =
    record p { delivered = place ∷ p.delivered; early = early_with (nat_lt place p.next) place p.early }
progress_with_mark (events.Report c n) true new p =
    mark_heard (list_any (has_key (event_key c n)) p.unheard) (event_key c n) p
progress_with_mark events.Boot heard true p = record p { looked = 0; unheard = []; heard = [] }
progress_with_mark _ heard new p = p

-- a boot that is accepted makes a revision
abbrev pub is_revision : World → World → Bool
is_revision before after = nat_lt before.now.revision after.now.revision

abbrev pub is_heard_by : World → Option Report → Bool
is_heard_by w None = false
is_heard_by w (Some r) = is_some (holder w r.contract.holder)

-- an event of a contract is there, and the contract's holder is launched
unfoldable pub is_heard : World → ℕ → ℕ → Bool
is_heard w c n = is_heard_by w (report_of_event w.table c n)

abbrev pub is_heard_in : World → Event → Bool
is_heard_in w (events.Report c n) = is_heard w c n
is_heard_in w _ = false

-- an event happens, and is marked
abbrev pub on : Progress → Event → Progress
on p e = progress_with_mark e (is_heard_in p.world e) (is_revision p.world (happens p.world e))
    (record p { world = happens p.world e })

-- ---- deeds

abbrev pub is_next : Progress → ℕ → Bool
is_next p place = place == p.next

-- the next message in the order of sending is lost, or was delivered before its turn
abbrev pub is_skipped : Progress → Bool
is_skipped p = list_any (is_next p) p.lost || list_any (is_next p) p.early

abbrev pub past_next : Progress → Progress
past_next p = record p { next = p.next + 1 }

abbrev pub progress_after_next : Bool → Progress → Progress
progress_after_next true p = past_next p
progress_after_next false p = on (past_next p) (events.Deliver p.next)

abbrev pub delivering_if : Option Message → Progress → Progress
delivering_if None p = p
delivering_if (Some m) p = progress_after_next (is_skipped p) p

unfoldable pub deliver_next : Progress → Progress
deliver_next p = delivering_if (sent_at p.world p.next) p

abbrev pub is_known_contract : World → ℕ → Bool
is_known_contract w id = is_some (contract w.table id)

-- it stays unheard if the contract is there and its holder is not launched
abbrev pub report_if : Bool → Bool → ContractEvent → Progress → Progress
report_if true known e p = on p (events.Report e.contract e.number)
report_if false true e p = p
report_if false false e p = record p { unheard = filter (has_other_key (key_of e)) p.unheard }

unfoldable pub report_one : ContractEvent → Progress → Progress
report_one e p = report_if (is_heard p.world e.contract e.number) (is_known_contract p.world e.contract) e p

abbrev pub is_spawn : Call → Bool
is_spawn (asks.Spawn cookie terms) = true
is_spawn _ = false

-- the turn of a restarter for an instance asks for a spawn
abbrev pub asks_spawn : Option Knowledge → ℕ → Bool
asks_spawn None n = false
asks_spawn (Some k) n = is_spawn (reply_to_tick k n).call

abbrev pub refuses : Progress → List ℕ → ℕ → Bool
refuses p name n = nat_lt 0 p.refuse && asks_spawn (restarter p.world name) n

-- ---- turns

abbrev pub by_name : By (List ℕ) (List ℕ)
by_name = by_text (λ name. name)

-- svc.startd's own first, and then the others in byte order, each once
abbrev pub in_order : List (List ℕ) → List (List ℕ)
in_order names = startd ∷ filter (λ name. not (pointwise nat_eq name startd)) (put_all by_name names [])

abbrev pub owners : World → List (List ℕ)
owners w = map (λ i. i.row.owner) (all_read w.now)

abbrev pub launch_deeds : World → List (List ℕ) → List Deed
launch_deeds w names = map (λ name. deeds.Launch name) (filter (λ name. not (is_launched w name)) names)

-- the instances that a restarter knows
abbrev pub numbers_known : Option Knowledge → List ℕ
numbers_known None = []
numbers_known (Some k) = map (λ i. i.instance) k.instances

abbrev pub waiting_count : Progress → ℕ
waiting_count p = length p.world.sent - p.next

abbrev pub was_heard : List EventKey → ContractEvent → Bool
was_heard keys e = list_any (λ key. has_key key e) keys

-- the events that happened since the last look at events, and were not heard early
abbrev pub new_events : Progress → List ContractEvent
new_events p = filter (λ e. not (was_heard p.heard e)) (drop p.looked p.world.table.events)

-- before reports are made, all that happened is looked at
abbrev pub progress_at_turn : Turn → Progress → Progress
progress_at_turn turns.Reports p =
    record p { looked = length p.world.table.events; unheard = p.unheard ++ new_events p; heard = [] }
progress_at_turn _ p = p

-- the deeds of a turn that was entered
unfoldable pub deeds_of : Progress → Turn → List Deed
deeds_of p turns.Launches = launch_deeds p.world (in_order (owners p.world))
deeds_of p turns.Messages = replicate (waiting_count p) deeds.DeliverNext
deeds_of p turns.Ask = deeds.Ask ∷ []
deeds_of p turns.Orders = deeds.Orders ∷ []
deeds_of p turns.Reports = map (λ e. deeds.Report e) p.unheard
deeds_of p (turns.OwnTick name) = deeds.OwnTick name ∷ []
deeds_of p (turns.Ticks name) = map (λ n. deeds.Tick name n) (numbers_known (restarter p.world name))

-- so many messages are delivered, and all that wait
abbrev pub deliver_count : ℕ → Progress → Progress
deliver_count zero p = p
deliver_count (suc k) p = deliver_count k (deliver_next p)

unfoldable pub turn_of_messages : Progress → Progress
turn_of_messages p = deliver_count (waiting_count p) p

-- ---- a round

-- the messages that wait, those that are sent on them, and those that are sent on these. An order brings a proposal,
-- which brings an answer, which brings nothing
abbrev pub deliveries : List Turn
deliveries = turns.Messages ∷ turns.Messages ∷ turns.Messages ∷ []

-- owners are launched; the graph asks for the view and sends its orders; contracts are reported
abbrev pub first_turns : List Turn
first_turns =
    turns.Launches ∷ deliveries ++ turns.Ask ∷ deliveries ++ turns.Orders ∷ deliveries ++ turns.Reports ∷ []

-- a restarter has its own turn, and then one for each instance that it knows
abbrev pub turns_of : List ℕ → List Turn
turns_of name = turns.OwnTick name ∷ deliveries ++ turns.Ticks name ∷ deliveries

abbrev pub turns_of_all : List (List ℕ) → List Turn
turns_of_all [] = []
turns_of_all (name ∷ names) = turns_of name ++ turns_of_all names

-- the launched restarters, svc.startd's own first
abbrev pub launched_names : World → List (List ℕ)
launched_names w = filter (is_launched w) (in_order (map (λ k. k.name) w.restarters))

-- ---- until it is quiet

-- nothing is ordered of what is held, and restarters wait for nothing but methods that run
unfoldable pub is_quiet : World → Bool
is_quiet w = has_no_orders (view w.now) && list_all at_rest w.restarters

-- ---- what is asked of a schedule

-- the next so many spawns are refused, in place of what was asked before
unfoldable pub progress_with_refusals : ℕ → Progress → Progress
progress_with_refusals k p = record p { refuse = k }

-- the place of the k-th message that is sent from now on; a place past the greatest is never reached
abbrev pub lost_place : ℕ → ℕ → Option ℕ
lost_place sent k = if nat_lt 0 k && nat_lt (sent + k) 0x8000_0000_0000_0000 then Some (sent + k - 1) else None

-- the k-th message that is sent from now on is lost (0: none), in place of what was asked before
unfoldable pub progress_with_loss : ℕ → Progress → Progress
progress_with_loss k p =
    record p {
      lost =
          filter (λ place. nat_lt place (length p.world.sent)) p.lost
          ++ option_to_list (lost_place (length p.world.sent) k);
    }

abbrev pub delivered_again : List ℕ → Progress → Progress
delivered_again [] p = p
delivered_again (place ∷ places) p = delivered_again places (on p (events.Deliver place))

-- Each event keeps the clauses on rows, proposals and answers, if its restarters say only messages that may be said.
use Rattle.std.proofs.Common.{◌≡◌, ◌⊎◌, inl, inr, ℕ, ◌≤◌, ◌==◌, Bool, true, false, cond, List, [], ◌∷◌, ◌++◌, map, filter, Option, Some, None, refl, sym, subst, arith, eqb-true}
use Rattle.std.specs.List.{cons_option, filter_map}
use Rattle.smf_fmri.proofs.Patterns.{same_text}
use Rattle.smf_contract.specs.declared.call.ContractCall.{ContractCall}
use Rattle.smf_contract.specs.declared.contract.Report.{Report}
use Rattle.smf_contract.specs.Entries.{report_of_event as report_at}
use Rattle.smf_state.specs.declared.row.Row.{Row}
use Rattle.smf_state.specs.declared.step.Proposal.{Proposal}
use Rattle.smf_state.specs.declared.view.ViewItem.{ViewItem}
use Rattle.smf_model.specs.declared.command.Command.{Command}
use Rattle.smf_model.specs.declared.command.Command.TheVariants as commands
use Rattle.smf_model.specs.declared.command.CommandReply.{CommandReply}
use Rattle.smf_model.specs.declared.command.CommandReply.TheVariants as replies
use Rattle.smf_model.specs.declared.held.Instance.{Instance}
use Rattle.smf_state.specs.declared.view.View.{View}
use Rattle.smf_model.specs.History.{History, value_at}
use Rattle.smf_model.specs.Contents.{Holdings}
use Rattle.smf_model.specs.Laws.{IsNumbered}
use Rattle.smf_model.specs.Look.{groups_of, holdings_after_changes, instances, launch_of}
use Rattle.smf_model.specs.Next.{outcome_of_command, next}
use Rattle.smf_model.specs.GeneralGroup.{Groups, current}
use Rattle.smf_model.specs.Shown.{is_run_by, rows_of, view, view_item}
use Rattle.smf_model.proofs.LawNumbers.{asked_numbered}
use Rattle.smf_model.proofs.LawOutcomes.{apart, current_row}
use Rattle.smf_changes.specs.Changes.{changes_since, recent}
use Rattle.smf_engine.specs.Orders.{order, orders_seen}
use Rattle.smf_engine.proofs.Shape.{order_shape}
use Rattle.smf_wire.specs.declared.message.Message.{Message}
use Rattle.smf_wire.specs.declared.message.Message.TheVariants as messages
use Rattle.smf_wire.specs.declared.order.Order.{Order}
use Rattle.smf_restarter.specs.declared.reply.Reply.{Reply}
use Rattle.smf_restarter.specs.Knowledge.{Knowledge}
use Rattle.smf_restarter.specs.Replies.{reply_to_message}
use Rattle.smf_restarter.specs.Ticks.{own_tick, reply_to_tick}
use Rattle.smf_world.specs.declared.event.Event.{Event}
use Rattle.smf_world.specs.declared.event.Event.TheVariants as events
use Rattle.smf_world.specs.declared.event.SpawnAnswer.{SpawnAnswer}
use Rattle.smf_world.specs.declared.event.SpawnAnswer.TheVariants as spawns
use Rattle.smf_world.specs.declared.item.Item.{Item}
use Rattle.smf_world.specs.declared.work.Work.{Work}
use Rattle.smf_world.specs.Happens.{world_after, happens}
use Rattle.smf_world.specs.Safe.{WasSpawned}
use Rattle.smf_world.specs.Worked.{work_of_turn, answer_to, booted_as, work_of_call, work_of_command, work_of_crash, work_of_delivery, delivered_if, heard_by, holder, is_launched, work_of_join, known_of, launched_if, own_ticked, process_call, reported_by, reported_to, restarter, sent_at, ticked_for, work_of_timeout, work_on_message, work_of_event}
use Rattle.smf_world.specs.World.{World}
use Rattle.smf_world.proofs.CommitLists.{AreFound, found_all}
use Rattle.smf_world.proofs.DecidedClauses.{IsViewIn, ViewSeen}
use Rattle.smf_world.proofs.LiveLists.{Each}
use Rattle.smf_world.proofs.TrailItems.{noted}
use Rattle.smf_world.proofs.RowClauses.{AreSpent, IsSpent, WasProposed, WasRow, WasSaid, WereRows}
use Rattle.smf_world.proofs.RowCommands.{read_as}
use Rattle.smf_safety.proofs.RowEvents.{asked_of, sent_was_said, value_walked}
use Rattle.smf_world.proofs.RowGrants.{answers}
use Rattle.smf_safety.proofs.RowLater.{before_on, read_before, was_read}
use Rattle.smf_world.proofs.RowLaunches.{launches_rise}
use Rattle.smf_world.proofs.RowMoves.{IsRead}
use Rattle.smf_safety.proofs.RowWorld.{rows_noted, rows_said}
use Rattle.smf_safety.proofs.SaidAnswers.{may_answer}
use Rattle.smf_world.proofs.Questions.{of_answer, of_question}
use Rattle.smf_safety.proofs.SaidClauses.{AllMayBeSaid, AreRows, IsRowOf, MayBeSaid}

-- the clauses on a world's rows, proposals and answers hold
abbrev pub AreRowsOf : World → Type 0
AreRowsOf w = AreRows w.history w.now w.sent w.trail

-- who hears a message
abbrev pub addressed : Message → List ℕ
addressed (messages.Rows name launch rows) = name
addressed (messages.Ack name launch serial i row) = name
addressed (messages.Nack name launch serial i why row) = name
addressed (messages.Order o) = o.restarter
addressed _ = []

-- the restarters of a world say what may be said
pub record MaySay (w : World) : Type 0 where
  pub hears : (m : Message) (k : Knowledge) → WasSaid m w.sent → restarter w (addressed m) ≡ Some k
      → AllMayBeSaid w.now w.sent (reply_to_message k m).messages
  pub turns : (name : List ℕ) (k : Knowledge) → restarter w name ≡ Some k
      → AllMayBeSaid w.now w.sent (own_tick k k.stage).messages
  pub acts : (name : List ℕ) (n : ℕ) (k : Knowledge) → restarter w name ≡ Some k
      → AllMayBeSaid w.now w.sent (reply_to_tick k n).messages

-- ---- rows that the repository tells

abbrev RowsOf : Holdings → List ℕ → List Instance → Type 0
RowsOf h name [] = Unit {0}
RowsOf h name (i ∷ is) = (WasRow h i.number i.row × (i.row.owner ≡ name)) × RowsOf h name is

abbrev AreThere : Holdings → List Instance → Type 0
AreThere h [] = Unit {0}
AreThere h (i ∷ is) = WasRow h i.number i.row × AreThere h is

current_number : (gs : Groups) (i : Instance) → (current gs i).number ≡ i.number
current_number gs i = (current_row gs i).number

read_there : (h : Holdings) (gs : Groups) (is : List Instance) → IsNumbered h → AreFound (instances h) is
    → AreThere h (map (current gs) is)
read_there h gs [] b a = tt
read_there h gs (i ∷ is) b a = (
  subst (λ (n : ℕ). WasRow h n (current gs i).row) (sym (current_number gs i))
      (was_read h i.number i (current gs i).row b a.0 (read_as gs i)),
  read_there h gs is b a.1,
)

run_by : (h : Holdings) (name : List ℕ) (is : List Instance) → AreThere h is
    → RowsOf h name (filter (is_run_by name) is)
run_by h name [] a = tt
run_by h name (i ∷ is) a = by (is_run_by name i) refl (run_by h name is a.1)
  where
    by : (b : Bool) → is_run_by name i ≡ b → RowsOf h name (filter (is_run_by name) is)
        → RowsOf h name (cond b (i ∷ filter (is_run_by name) is) (filter (is_run_by name) is))
    by true e ih = ((a.0, (same_text i.row.owner name).0 e), ih)
    by false e ih = ih

all_known : (h : Holdings) (name : List ℕ) (is : List Instance) → RowsOf h name is
    → Each (IsRowOf h name) (map known_of is)
all_known h name [] a = tt
all_known h name (i ∷ is) a = (record { was = a.0.0; owner = a.0.1 }, all_known h name is a.1)

pub rows_told : (h : Holdings) (name : List ℕ) → IsNumbered h → Each (IsRowOf h name) (map known_of (rows_of h name))
unfolding rows_of
rows_told h name b =
    all_known h name _
    (run_by h name _ (read_there h (groups_of h) (instances h) b (found_all (instances h) (apart h b))))

-- ---- rows that the graph tells

-- a row of the history as it is read was the instance's
read_was : (h : Holdings) (n : ℕ) (i : Row) (r : Row) → WasRow h n i → IsRead i r → WasRow h n r
read_was h n i r w t =
    record { known = w.known; before = λ j e. before_on r i j.row (read_before i r t) (w.before j e) }

abbrev ItemsWere : Holdings → List ViewItem → Type 0
ItemsWere h xs = Each (λ (x : ViewItem). WasRow h x.instance x.row) xs

all_viewed : (y : History) (h v : Holdings) (m : ℕ) (is : List Instance) → WereRows y h → value_at y m ≡ Some v
    → AreFound (instances v) is → ItemsWere h (map (view_item v) is)
all_viewed y h v m [] were at a = tt
all_viewed y h v m (i ∷ is) were at a = (
  read_was h i.number i.row (current (groups_of v) i).row (were m v i.number i at a.0) (read_as (groups_of v) i),
  all_viewed y h v m is were at a.1,
)

view_was : (y : History) (h v : Holdings) (m : ℕ) → WereRows y h → IsNumbered v → value_at y m ≡ Some v
    → ItemsWere h (view v).items
unfolding view
view_was y h v m were b at = all_viewed y h v m (instances v) were at (found_all (instances v) (apart v b))

seen_was : (y : History) (h : Holdings) (v : View) → WereRows y h → IsViewIn y v → ItemsWere h v.items
seen_was y h v were i =
    subst (λ (x : View). ItemsWere h x.items) (sym i.shown) (view_was y h i.value v.revision were i.numbered i.value_is)

abbrev OrderWas : Holdings → Option Order → Type 0
OrderWas h None = Unit {0}
OrderWas h (Some o) = WasRow h o.instance o.row

-- orders may be said if their rows were rows of their instances
orders_of : (h : Holdings) (revision : ℕ) (all is : List ViewItem) (ms : List Message) → ItemsWere h is
    → AllMayBeSaid h ms (map (λ (o : Order). messages.Order o) (filter_map (order revision all) is))
orders_of h revision all [] ms a = tt
orders_of h revision all (i ∷ is) ms a =
    by (order revision all i) (order_shape revision all i (OrderWas h) tt (λ what. a.0))
    (λ ns. orders_of h revision all is ns a.1)
  where
    by : (o : Option Order) → OrderWas h o
        → ((ns : List Message)
        → AllMayBeSaid h ns (map (λ (o : Order). messages.Order o) (filter_map (order revision all) is)))
        → AllMayBeSaid h ms (map (λ (o : Order). messages.Order o) (cons_option o (filter_map (order revision all) is)))
    by None b rest = rest ms
    by (Some o) b rest = (record { is = b; once = tt }, rest (messages.Order o ∷ ms))

says_orders : (w : World) (o : Option View) → WereRows w.history w.now → ViewSeen w.history o
    → AllMayBeSaid w.now w.sent (map (λ (o : Order). messages.Order o) (orders_seen o))
says_orders w None were a = tt
says_orders w (Some v) were a = orders_of w.now v.revision v.items v.items w.sent (seen_was w.history w.now v were a)

-- ---- what an event says

-- the messages of an event may be said after its command
abbrev pub Says : World → Work → Type 0
Says w k = AllMayBeSaid (holdings_after_changes w.now k.changes) w.sent k.messages

says_joined : (w : World) (name : List ℕ) (launch : ℕ) (b : Bool) → (launch == launch_of w.now name) ≡ b
    → IsNumbered w.now → Says w (work_of_join w name launch b)
unfolding holdings_after_changes
says_joined w name launch true e n = (
  record {
    is = (
      let same : launch ≡ launch_of w.now name = eqb-true launch (launch_of w.now name) e in
          omega arith,
      rows_told w.now name n,
    );
    once = tt;
  },
  tt,
)
says_joined w name launch false e n = tt

says_told : (w : World) (m : Message) (o : Option Knowledge)
    → ((k : Knowledge) → o ≡ Some k → AllMayBeSaid w.now w.sent (reply_to_message k m).messages)
    → Says w (work_on_message m o)
unfolding heard_by holdings_after_changes
says_told w m None may = tt
says_told w m (Some k) may = may k refl

asked_rise : (h : Holdings) (c : Command) → IsNumbered h → (name : List ℕ)
    → launch_of h name ≤ launch_of (holdings_after_changes h (outcome_of_command h c).changes) name
unfolding next
asked_rise h c b = launches_rise h c b

asked_says : (w : World) (p : Proposal) → AreRowsOf w → WasProposed p w.sent
    → AllMayBeSaid (holdings_after_changes w.now (outcome_of_command w.now (commands.Propose p)).changes) w.sent
    (answer_to p (outcome_of_command w.now (commands.Propose p)).reply)
asked_says w p r s =
    may_answer w.now w.sent p (outcome_of_command w.now (commands.Propose p)) r.numbered
    (asked_numbered w.now (commands.Propose p) r.numbered)
    (asked_rise w.now (commands.Propose p) r.numbered) r.fit r.said r.explained s (answers w.now p)

says_delivered : (w : World) (m : Message) → AreRowsOf w → MaySay w → WasSaid m w.sent → Says w (work_of_delivery w m)
unfolding work_of_delivery holdings_after_changes work_of_command
says_delivered w (messages.Join name launch) r may s =
    says_joined w name launch (launch == launch_of w.now name) refl r.numbered
says_delivered w (messages.Rows name launch rows) r may s =
    says_told w (messages.Rows name launch rows) (restarter w name)
    (λ k e. may.hears (messages.Rows name launch rows) k s e)
says_delivered w (messages.Propose p) r may s = asked_says w p r s
says_delivered w (messages.Ack name launch serial i row) r may s =
    says_told w (messages.Ack name launch serial i row) (restarter w name)
    (λ k e. may.hears (messages.Ack name launch serial i row) k s e)
says_delivered w (messages.Nack name launch serial i why row) r may s =
    says_told w (messages.Nack name launch serial i why row) (restarter w name)
    (λ k e. may.hears (messages.Nack name launch serial i why row) k s e)
says_delivered w messages.AskView r may s = (record { is = tt; once = tt }, tt)
says_delivered w (messages.View v) r may s = tt
says_delivered w (messages.AskChange from) r may s = (
  of_answer (MayBeSaid w.now w.sent) w.now from (changes_since (recent w.history.first w.history.past) w.now from)
      (record { is = tt; once = tt }) (λ c. record { is = tt; once = tt }),
  tt,
)
says_delivered w (messages.Changes c) r may s = tt
says_delivered w (messages.Order o) r may s =
    says_told w (messages.Order o) (restarter w o.restarter) (λ k e. may.hears (messages.Order o) k s e)

says_sent : (w : World) (place : ℕ) → AreRowsOf w → MaySay w → Says w (delivered_if w (sent_at w place))
says_sent w place r may = by (sent_at w place) refl
  where
    by : (o : Option Message) → sent_at w place ≡ o → Says w (delivered_if w o)
    by None e = tt
    by (Some m) e = says_delivered w m r may (sent_was_said w place m e)

says_acted : (w : World) (k : Knowledge) (n : ℕ) (spawn : SpawnAnswer) (r : Reply)
    → AllMayBeSaid w.now w.sent r.messages → Says w (work_of_turn w k n spawn r)
unfolding work_of_turn holdings_after_changes
says_acted w k n spawn r may = may

says_own : (w : World) (o : Option Knowledge)
    → ((k : Knowledge) → o ≡ Some k → AllMayBeSaid w.now w.sent (own_tick k k.stage).messages) → Says w (own_ticked w o)
says_own w None may = tt
says_own w (Some k) may = says_acted w k 0 spawns.Made (own_tick k k.stage) (may k refl)

says_ticked : (w : World) (n : ℕ) (spawn : SpawnAnswer) (o : Option Knowledge)
    → ((k : Knowledge) → o ≡ Some k → AllMayBeSaid w.now w.sent (reply_to_tick k n).messages)
    → Says w (ticked_for w n spawn o)
says_ticked w n spawn None may = tt
says_ticked w n spawn (Some k) may = says_acted w k n spawn (reply_to_tick k n) (may k refl)

-- nothing is said
abbrev IsSilent : Work → Type 0
IsSilent k = k.messages ≡ []

silent_says : (w : World) (k : Work) → IsSilent k → Says w k
silent_says w k e = subst (AllMayBeSaid (holdings_after_changes w.now k.changes) w.sent) (sym e) tt

silent_command : (w : World) (c : Command) → IsSilent (work_of_command w c)
unfolding work_of_command
silent_command w c = refl

silent_calling : (w : World) (call : ContractCall) → IsSilent (work_of_call w.table call)
unfolding work_of_call
silent_calling w call = refl

silent_reported_by : (r : Report) (o : Option Knowledge) → IsSilent (reported_by r o)
silent_reported_by r None = refl
silent_reported_by r (Some k) = refl

silent_reported : (w : World) (o : Option Report) → IsSilent (reported_to w o)
silent_reported w None = refl
silent_reported w (Some r) = silent_reported_by r (holder w r.contract.holder)

silent_timed : (n : ℕ) (o : Option Knowledge) → IsSilent (work_of_timeout n o)
silent_timed n None = refl
silent_timed n (Some k) = refl

silent_crashed : (w : World) (o : Option Knowledge) → IsSilent (work_of_crash w o)
unfolding work_of_call
silent_crashed w None = refl
silent_crashed w (Some k) = refl

silent_launched : (w : World) (name : List ℕ) (b : Bool) → IsSilent (launched_if w name b)
silent_launched w name true = refl
silent_launched w name false = silent_command w (commands.Launch name)

silent_booted : (k : Work) (rs : List CommandReply) → IsSilent k → IsSilent (booted_as k rs)
silent_booted k [] e = e
silent_booted k (replies.Done ∷ rs) e = e
silent_booted k (r ∷ rs) e = e

pub event_says : (w : World) (e : Event) → AreRowsOf w → ViewSeen w.history w.seen → MaySay w
    → Says w (work_of_event w e)
unfolding work_of_event holdings_after_changes
event_says w (events.Deliver place) r seen may = says_sent w place r may
event_says w (events.Client edit) r seen may =
    silent_says w (work_of_command w (commands.Edit edit)) (silent_command w (commands.Edit edit))
event_says w events.Ask r seen may = (
  of_question (MayBeSaid w.now w.sent) w.seen (record { is = tt; once = tt }) (λ n. record { is = tt; once = tt }),
  tt,
)
event_says w events.Orders r seen may = says_orders w w.seen r.were seen
event_says w (events.OwnTick name) r seen may = says_own w (restarter w name) (λ k e. may.turns name k e)
event_says w (events.Tick name n spawn) r seen may =
    says_ticked w n spawn (restarter w name) (λ k e. may.acts name n k e)
event_says w (events.Process process what) r seen may =
    silent_says w (work_of_call w.table (process_call process what)) (silent_calling w (process_call process what))
event_says w (events.Report contract number) r seen may =
    silent_says w (reported_to w (report_at w.table contract number))
    (silent_reported w (report_at w.table contract number))
event_says w (events.Timeout name n) r seen may =
    silent_says w (work_of_timeout n (restarter w name)) (silent_timed n (restarter w name))
event_says w (events.Crash name) r seen may =
    silent_says w (work_of_crash w (restarter w name)) (silent_crashed w (restarter w name))
event_says w (events.Launch name) r seen may =
    silent_says w (launched_if w name (is_launched w name)) (silent_launched w name (is_launched w name))
event_says w events.Boot r seen may =
    silent_says w (booted_as (work_of_command w commands.Boot) (work_of_command w commands.Boot).reply)
    (silent_booted (work_of_command w commands.Boot) (work_of_command w commands.Boot).reply
    (silent_command w commands.Boot))

-- ---- the whole

-- each run that an event begins was given before
abbrev pub BeginsTheGiven : World → Event → Type 0
BeginsTheGiven w e = (n run : ℕ) → WasSpawned n run (noted (work_of_event w e).items w.trail)
    → WasSpawned n run w.trail ⊎ IsSpent w.now n run

spent_noted : (w : World) (e : Event) → AreRowsOf w → BeginsTheGiven w e
    → AreSpent w.now (noted (work_of_event w e).items w.trail)
spent_noted w e r given n run s = elim (given n run s) [
  | inl old ↦ r.spent n run old
  | inr new ↦ new
]

pub rows_event : (w : World) (e : Event) → AreRowsOf w → ViewSeen w.history w.seen → MaySay w → BeginsTheGiven w e
    → AreRowsOf (happens w e)
unfolding happens world_after
rows_event w e r seen may given =
    let k : Work = work_of_event w e in
    let t : List Item = noted k.items w.trail in
    let noted_rows : AreRows w.history w.now w.sent t =
    rows_noted w.history w.now w.sent w.trail t (spent_noted w e r given) r in
    let valued = value_walked w t k.changes k.command (asked_of w e) noted_rows in
    rows_said (record w.history { past = k.command ++ w.history.past })
    (holdings_after_changes w.now k.changes) w.sent t k.messages (event_says w e r seen may) valued

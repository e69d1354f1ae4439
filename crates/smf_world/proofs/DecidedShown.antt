-- Each view and each order is that of the history's value at its revision, whatever happens.
use Rattle.std.proofs.Common.{◌≡◌, ◌==◌, nat_lt, ℕ, Bool, true, false, if◌then◌else◌, List, [], ◌∷◌, ◌++◌, map, reverse, Option, Some, None, refl, ap}
use Rattle.std.specs.Prelude.{slice_get}
use Rattle.smf_contract.specs.declared.call.ContractCall.{ContractCall}
use Rattle.smf_contract.specs.declared.contract.Report.{Report}
use Rattle.smf_contract.specs.Entries.{Contracts, report_of_event as report_at}
use Rattle.smf_state.specs.declared.step.Proposal.{Proposal}
use Rattle.smf_model.specs.declared.command.Command.{Command}
use Rattle.smf_model.specs.declared.command.Command.TheVariants as commands
use Rattle.smf_model.specs.declared.command.CommandReply.{CommandReply}
use Rattle.smf_model.specs.declared.command.CommandReply.TheVariants as replies
use Rattle.smf_state.specs.declared.view.ChangedItem.{ChangedItem}
use Rattle.smf_state.specs.declared.view.View.{View}
use Rattle.smf_model.specs.History.{History, holdings_after_commands}
use Rattle.smf_model.specs.Contents.{Holdings}
use Rattle.smf_model.specs.Laws.{IsNumbered}
use Rattle.smf_model.specs.Look.{launch_of}
use Rattle.smf_model.specs.Next.{outcome_of_command, next}
use Rattle.smf_model.specs.Shown.{view}
use Rattle.smf_model.proofs.LawNumbers.{stays_numbered}
use Rattle.smf_wire.specs.declared.message.Message.{Message}
use Rattle.smf_wire.specs.declared.message.Message.TheVariants as messages
use Rattle.smf_wire.specs.declared.message.ViewChanges.{ViewChanges}
use Rattle.smf_wire.specs.declared.order.Order.{Order}
use Rattle.smf_restarter.specs.declared.reply.Reply.{Reply}
use Rattle.smf_restarter.specs.Knowledge.{Knowledge}
use Rattle.smf_restarter.specs.Replies.{reply_to_message}
use Rattle.smf_restarter.specs.Ticks.{own_tick, reply_to_tick}
use Rattle.smf_changes.specs.Changes.{changes_since, recent}
use Rattle.smf_engine.specs.Orders.{newer, orders_seen, question}
use Rattle.smf_world.specs.declared.event.Event.{Event}
use Rattle.smf_world.specs.declared.event.Event.TheVariants as events
use Rattle.smf_world.specs.declared.event.SpawnAnswer.{SpawnAnswer}
use Rattle.smf_world.specs.declared.event.SpawnAnswer.TheVariants as spawns
use Rattle.smf_world.specs.declared.work.Work.{Work}
use Rattle.smf_world.specs.Happens.{world_after, happens, newest, seen_after}
use Rattle.smf_world.specs.Runs.{run}
use Rattle.smf_world.specs.Worked.{work_of_turn, answer_since, answer_to, booted_as, changes_or_view, work_of_call, work_of_command, work_of_crash, work_of_delivery, delivered_if, heard_by, holder, is_launched, work_of_join, launched_if, own_ticked, process_call, work_with_answers, reported_by, reported_to, restarter, sent_at, ticked_for, work_of_timeout, work_on_message, work_of_event}
use Rattle.smf_world.specs.World.{World, initial_world}
use Rattle.smf_world.proofs.DecidedChanges.{changes_later, patches_seen, since_in}
use Rattle.smf_world.proofs.DecidedClauses.{AreChangesIn, IsOrderIn, IsViewIn, OrderSaid, OrdersSaid, ViewSaid, ViewSeen, ViewsSaid}
use Rattle.smf_world.proofs.DecidedHistory.{Grew, grew_by, newest_value}
use Rattle.smf_world.proofs.DecidedOrders.{orders_in_history}
use Rattle.smf_world.proofs.DecidedQuiet.{IsAsked, IsQuiet, Quiet, asked_quiet, heard_quiet, own_quiet, tick_quiet}
use Rattle.smf_world.proofs.LiveEach.{each_later, each_reversed, each_sent}
use Rattle.smf_world.proofs.LiveLists.{Each}
use Rattle.smf_world.proofs.Facts.{Fact, IsKept, Of, of_event}
use Rattle.smf_world.proofs.Questions.{of_question}

-- ---- a history that grew

view_later : (y z : History) → Grew y z → (v : View) → IsViewIn y v → IsViewIn z v
view_later y z g v is =
    record { value = is.value; value_is = g v.revision is.value is.value_is; numbered = is.numbered; shown = is.shown }

order_later : (y z : History) → Grew y z → (o : Order) → IsOrderIn y o → IsOrderIn z o
order_later y z g o is =
    record { value = is.value; value_is = g o.revision is.value is.value_is; numbered = is.numbered; given = is.given }

-- a message says only what the history has
abbrev Said : History → Message → Type 0
Said y m = ViewSaid y m × OrderSaid y m

said_later : (y z : History) → Grew y z → (m : Message) → Said y m → Said z m
said_later y z g (messages.View v) s = (view_later y z g v s.0, tt)
said_later y z g (messages.Changes news) s = (changes_later y z g news s.0, tt)
said_later y z g (messages.Order o) s = (tt, order_later y z g o s.1)
said_later y z g (messages.Join name launch) s = (tt, tt)
said_later y z g (messages.Rows name launch rows) s = (tt, tt)
said_later y z g (messages.Propose p) s = (tt, tt)
said_later y z g (messages.Ack name launch serial n row) s = (tt, tt)
said_later y z g (messages.Nack name launch serial n why row) s = (tt, tt)
said_later y z g messages.AskView s = (tt, tt)
said_later y z g (messages.AskChange since) s = (tt, tt)

quiet_said : (y : History) (m : Message) → IsQuiet m → Said y m
quiet_said y (messages.View v) q = absurd q
quiet_said y (messages.Changes news) q = absurd q
quiet_said y (messages.Order o) q = absurd q
quiet_said y (messages.Join name launch) q = (tt, tt)
quiet_said y (messages.Rows name launch rows) q = (tt, tt)
quiet_said y (messages.Propose p) q = (tt, tt)
quiet_said y (messages.Ack name launch serial n row) q = (tt, tt)
quiet_said y (messages.Nack name launch serial n why row) q = (tt, tt)
quiet_said y messages.AskView q = (tt, tt)
quiet_said y (messages.AskChange since) q = (tt, tt)

seen_later : (y z : History) → Grew y z → (o : Option View) → ViewSeen y o → ViewSeen z o
seen_later y z g None s = tt
seen_later y z g (Some v) s = view_later y z g v s

newer_seen : (y : History) (o : Option View) (v : View) → ViewSeen y o → IsViewIn y v → ViewSeen y (newer o v)
newer_seen y None v a b = b
newer_seen y (Some held) v a b = by (nat_lt held.revision v.revision)
  where
    by : (c : Bool) → ViewSeen y (if c then Some v else Some held)
    by true = b
    by false = a

newest_seen : (y : History) (o : Option View) (vs : List View) → ViewSeen y o → Each (IsViewIn y) vs
    → ViewSeen y (newest o vs)
newest_seen y o [] a b = a
newest_seen y o (v ∷ vs) a b = newest_seen y (newer o v) vs (newer_seen y o v a b.0) b.1

after_seen : (y : History) (forgets : Bool) (o : Option View) (vs : List View) → ViewSeen y o → Each (IsViewIn y) vs
    → ViewSeen y (seen_after forgets o vs)
after_seen y true o vs a b = tt
after_seen y false o vs a b = newest_seen y o vs a b

-- ---- what the messages and the graph's view say

-- M.view, M.engine and M.order, if the value that is held is the newest
pub record IsShown (y : History) (h : Holdings) (seen : Option View) (sent : List Message) : Type 0 where
  pub first : IsNumbered y.first
  pub numbered : IsNumbered h
  pub newest : h ≡ holdings_after_commands y.first y.past
  pub views : ViewsSaid y sent
  pub engine : ViewSeen y seen
  pub orders : OrdersSaid y sent

abbrev pub Shown : World → Type 0
Shown w = IsShown w.history w.now w.seen w.sent

-- the messages, views and changes of an event's work are in the history
record Shows (y : History) (ms : List Message) (vs : List View) (cs : List ViewChanges) : Type 0 where
  says : Each (Said y) ms
  sees : Each (IsViewIn y) vs
  learns : Each (AreChangesIn y) cs

abbrev WorkShows : World → Work → Type 0
WorkShows w k = Shows w.history k.messages k.seen k.patches

silent : (y : History) → Shows y [] [] []
silent y = record { says = tt; sees = tt; learns = tt }

quiet_shows : (y : History) (ms : List Message) → Each IsQuiet ms → Shows y ms [] []
quiet_shows y ms q = record { says = each_later IsQuiet (Said y) (quiet_said y) ms q; sees = tt; learns = tt }

now_in : (y : History) (h : Holdings) → IsNumbered h → h ≡ holdings_after_commands y.first y.past → IsViewIn y (view h)
unfolding view
now_in y h numbered e = record { value = h; value_is = newest_value y h e; numbered = numbered; shown = refl }

command_shows : (w : World) (c : Command) → WorkShows w (work_of_command w c)
unfolding work_of_command
command_shows w c = silent w.history

answer_quiet : (p : Proposal) (a : CommandReply) → Each IsQuiet (answer_to p a)
answer_quiet p (replies.Granted row) = (tt, tt)
answer_quiet p (replies.Stale why row) = (tt, tt)
answer_quiet p _ = tt

proposal_shows : (w : World) (p : Proposal) → WorkShows w (work_with_answers p (work_of_command w (commands.Propose p)))
unfolding work_of_command
proposal_shows w p =
    quiet_shows w.history (answer_to p (outcome_of_command w.now (commands.Propose p)).reply)
    (answer_quiet p (outcome_of_command w.now (commands.Propose p)).reply)

heard_shows : (w : World) (k : Knowledge) (r : Reply) → Quiet r → WorkShows w (heard_by k r)
unfolding heard_by
heard_shows w k r q = quiet_shows w.history r.messages (each_later IsAsked IsQuiet asked_quiet r.messages q)

acted_shows : (w : World) (k : Knowledge) (n : ℕ) (spawn : SpawnAnswer) (r : Reply) → Quiet r
    → WorkShows w (work_of_turn w k n spawn r)
unfolding work_of_turn
acted_shows w k n spawn r q = quiet_shows w.history r.messages (each_later IsAsked IsQuiet asked_quiet r.messages q)

calling_shows : (w : World) (t : Contracts) (call : ContractCall) → WorkShows w (work_of_call t call)
unfolding work_of_call
calling_shows w t call = silent w.history

told_shows : (w : World) (m : Message) (o : Option Knowledge) → WorkShows w (work_on_message m o)
told_shows w m None = silent w.history
told_shows w m (Some k) = heard_shows w k (reply_to_message k m) (heard_quiet k m)

joined_shows : (w : World) (name : List ℕ) (launch : ℕ) (b : Bool) → WorkShows w (work_of_join w name launch b)
joined_shows w name launch true = quiet_shows w.history _ (tt, tt)
joined_shows w name launch false = silent w.history

answer_said : (w : World) (from : ℕ) → Shown w → Said w.history (answer_since w from)
answer_said w from f =
    by (changes_since (recent w.history.first w.history.past) w.now from)
    (λ c e. since_in w.history w.now from c f.first f.newest e)
  where
    by : (o : Option (ℕ × List ChangedItem))
        → ((c : ℕ × List ChangedItem) → o ≡ Some c
        → AreChangesIn w.history (record { from = from; to = c.0; items = c.1 }))
        → Said w.history (changes_or_view w.now from o)
    by None is = (now_in w.history w.now f.numbered f.newest, tt)
    by (Some c) is = (is c refl, tt)

delivered_shows : (w : World) (m : Message) → Shown w → Said w.history m → WorkShows w (work_of_delivery w m)
unfolding work_of_delivery
delivered_shows w (messages.Join name launch) f s = joined_shows w name launch (launch == launch_of w.now name)
delivered_shows w (messages.Rows name launch rows) f s =
    told_shows w (messages.Rows name launch rows) (restarter w name)
delivered_shows w (messages.Propose p) f s = proposal_shows w p
delivered_shows w (messages.Ack name launch serial i row) f s =
    told_shows w (messages.Ack name launch serial i row) (restarter w name)
delivered_shows w (messages.Nack name launch serial i why row) f s =
    told_shows w (messages.Nack name launch serial i why row) (restarter w name)
delivered_shows w messages.AskView f s =
    record { says = ((now_in w.history w.now f.numbered f.newest, tt), tt); sees = tt; learns = tt }
delivered_shows w (messages.View v) f s = record { says = tt; sees = (s.0, tt); learns = tt }
delivered_shows w (messages.AskChange from) f s = record { says = (answer_said w from f, tt); sees = tt; learns = tt }
delivered_shows w (messages.Changes c) f s = record { says = tt; sees = tt; learns = (s.0, tt) }
delivered_shows w (messages.Order o) f s = told_shows w (messages.Order o) (restarter w o.restarter)

both : (y : History) (ms : List Message) → ViewsSaid y ms → OrdersSaid y ms → Each (Said y) ms
both y [] a b = tt
both y (m ∷ ms) a b = ((a.0, b.0), both y ms a.1 b.1)

sent_shows : (w : World) (place : ℕ) (o : Option Message) → slice_get (reverse w.sent) place ≡ o → Shown w
    → WorkShows w (delivered_if w o)
sent_shows w place None e f = silent w.history
sent_shows w place (Some m) e f =
    delivered_shows w m f (each_sent (Said w.history) w.sent place m (both w.history w.sent f.views f.orders) e)

own_shows : (w : World) (o : Option Knowledge) → WorkShows w (own_ticked w o)
own_shows w None = silent w.history
own_shows w (Some k) = acted_shows w k 0 spawns.Made (own_tick k k.stage) (own_quiet k k.stage)

ticked_shows : (w : World) (n : ℕ) (spawn : SpawnAnswer) (o : Option Knowledge) → WorkShows w (ticked_for w n spawn o)
ticked_shows w n spawn None = silent w.history
ticked_shows w n spawn (Some k) = acted_shows w k n spawn (reply_to_tick k n) (tick_quiet k n)

reported_by_shows : (w : World) (r : Report) (o : Option Knowledge) → WorkShows w (reported_by r o)
reported_by_shows w r None = silent w.history
reported_by_shows w r (Some k) = silent w.history

reported_shows : (w : World) (o : Option Report) → WorkShows w (reported_to w o)
reported_shows w None = silent w.history
reported_shows w (Some r) = reported_by_shows w r (holder w r.contract.holder)

timed_shows : (w : World) (n : ℕ) (o : Option Knowledge) → WorkShows w (work_of_timeout n o)
timed_shows w n None = silent w.history
timed_shows w n (Some k) = silent w.history

crashed_shows : (w : World) (o : Option Knowledge) → WorkShows w (work_of_crash w o)
crashed_shows w None = silent w.history
crashed_shows w (Some k) = calling_shows w w.table _

launched_shows : (w : World) (name : List ℕ) (b : Bool) → WorkShows w (launched_if w name b)
launched_shows w name true = silent w.history
launched_shows w name false = command_shows w (commands.Launch name)

booted_shows : (w : World) (k : Work) (rs : List CommandReply) → WorkShows w k → WorkShows w (booted_as k rs)
booted_shows w k [] a = a
booted_shows w k (replies.Done ∷ rs) a = a
booted_shows w k (r ∷ rs) a = a

orders_said : (y : History) (os : List Order) → Each (IsOrderIn y) os
    → Each (Said y) (map (λ (o : Order). messages.Order o) os)
orders_said y [] a = tt
orders_said y (o ∷ os) a = ((tt, a.0), orders_said y os a.1)

work_shows : (w : World) (e : Event) → Shown w → WorkShows w (work_of_event w e)
unfolding work_of_event
work_shows w (events.Deliver place) f = sent_shows w place (sent_at w place) refl f
work_shows w (events.Client edit) f = command_shows w (commands.Edit edit)
work_shows w events.Ask f = quiet_shows w.history (question w.seen ∷ []) (of_question IsQuiet w.seen tt (λ n. tt), tt)
work_shows w events.Orders f =
    record {
      says = orders_said w.history (orders_seen w.seen) (orders_in_history w.history w.seen f.engine);
      sees = tt;
      learns = tt;
    }
work_shows w (events.OwnTick name) f = own_shows w (restarter w name)
work_shows w (events.Tick name n spawn) f = ticked_shows w n spawn (restarter w name)
work_shows w (events.Process process what) f = calling_shows w w.table (process_call process what)
work_shows w (events.Report contract number) f = reported_shows w (report_at w.table contract number)
work_shows w (events.Timeout name n) f = timed_shows w n (restarter w name)
work_shows w (events.Crash name) f = crashed_shows w (restarter w name)
work_shows w (events.Launch name) f = launched_shows w name (is_launched w name)
work_shows w events.Boot f =
    booted_shows w (work_of_command w commands.Boot) (work_of_command w commands.Boot).reply
    (command_shows w commands.Boot)

-- ---- events

-- the value that is held is the newest one
abbrev IsNewest : Fact
IsNewest y h t = IsNumbered h × (h ≡ holdings_after_commands y.first y.past)

newest_kept : IsKept IsNewest
newest_kept =
    record {
      numbered = λ y h t f. f.0;
      kept = λ y h c t m f. (stays_numbered h c f.0, ap (λ (k : Holdings). (next k c).0) f.1);
    }

shown_by : (w : World) (e : Event) → IsNumbered w.history.first → Of IsNewest (happens w e)
    → ViewsSaid w.history w.sent → OrdersSaid w.history w.sent → ViewSeen w.history w.seen
    → WorkShows w (work_of_event w e) → Shown (happens w e)
unfolding happens world_after
shown_by w e first is views orders engine s =
    let k : Work = work_of_event w e in
    let y : History = w.history in
    let z : History = record y { past = k.command ++ y.past } in
    let g : Grew y z = grew_by y.first k.command y.past in
    let says : Each (Said z) k.messages = each_later (Said y) (Said z) (said_later y z g) k.messages s.says in
    let before : Each (Said z) w.sent =
    each_later (Said y) (Said z) (said_later y z g) w.sent (both y w.sent views orders) in
    let after : Each (Said z) (reverse k.messages ++ w.sent) = each_reversed (Said z) k.messages w.sent says before in
    record {
      first = first;
      numbered = is.0;
      newest = is.1;
      views = each_later (Said z) (ViewSaid z) (λ m x. x.0) (reverse k.messages ++ w.sent) after;
      engine =
          patches_seen z (seen_after k.forgets w.seen k.seen) k.patches
          (after_seen z k.forgets w.seen k.seen (seen_later y z g w.seen engine)
          (each_later (IsViewIn y) (IsViewIn z) (view_later y z g) k.seen s.sees))
          (each_later (AreChangesIn y) (AreChangesIn z) (changes_later y z g) k.patches s.learns);
      orders = each_later (Said z) (OrderSaid z) (λ m x. x.1) (reverse k.messages ++ w.sent) after;
    }

pub shown_event : (w : World) (e : Event) → Shown w → Shown (happens w e)
shown_event w e f =
    shown_by w e f.first (of_event IsNewest newest_kept w e (f.numbered, f.newest)) f.views f.orders f.engine
    (work_shows w e f)

pub shown_run : (es : List Event) (w : World) → Shown w → Shown (run es w)
shown_run [] w f = f
shown_run (e ∷ es) w f = shown_run es (happens w e) (shown_event w e f)

-- from what was found on
pub shown_first : (h : Holdings) → IsNumbered h → Shown (initial_world h)
shown_first h n = record { first = n; numbered = n; newest = refl; views = tt; engine = tt; orders = tt }

-- The messages that an event sends, and the changes that it makes.
use Rattle.std.proofs.Common.{◌≡◌, ℕ, ◌==◌, Bool, true, false, List, [], ◌∷◌, map, Option, Some, None, is_some, refl, sym, subst}
use Rattle.std.specs.List.{AllByRecursion}
use Rattle.smf_contract.specs.declared.call.ContractCall.{ContractCall}
use Rattle.smf_contract.specs.declared.contract.Report.{Report}
use Rattle.smf_contract.specs.Entries.{Contracts, report_of_event as report_at}
use Rattle.smf_changes.specs.Changes.{changes_since, recent}
use Rattle.smf_engine.specs.Orders.{orders_seen, question}
use Rattle.smf_state.specs.declared.row.Row.{Row}
use Rattle.smf_state.specs.declared.step.Proposal.{Proposal}
use Rattle.smf_state.specs.declared.view.View.{View}
use Rattle.smf_model.specs.declared.change.Change.{Change}
use Rattle.smf_model.specs.declared.change.Outcome.{Outcome}
use Rattle.smf_model.specs.declared.command.Command.{Command}
use Rattle.smf_model.specs.declared.command.Command.TheVariants as commands
use Rattle.smf_model.specs.declared.command.CommandReply.{CommandReply}
use Rattle.smf_model.specs.declared.command.CommandReply.TheVariants as replies
use Rattle.smf_state.specs.declared.refusal.Why.{Why}
use Rattle.smf_state.specs.declared.refusal.Why.TheVariants as whys
use Rattle.smf_model.specs.Contents.{Holdings}
use Rattle.smf_model.specs.Laws.{IsNumbered}
use Rattle.smf_model.specs.Look.{launch_of}
use Rattle.smf_model.specs.Next.{outcome_of_command}
use Rattle.smf_model.specs.Shown.{rows_of, view}
use Rattle.smf_wire.specs.declared.message.Message.{Message}
use Rattle.smf_wire.specs.declared.message.Message.TheVariants as messages
use Rattle.smf_wire.specs.declared.order.Order.{Order}
use Rattle.smf_wire.specs.Lines.{IsSpelled, has_row}
use Rattle.smf_restarter.specs.declared.reply.Reply.{Reply}
use Rattle.smf_restarter.specs.Knowledge.{Knowledge}
use Rattle.smf_restarter.specs.Replies.{reply_to_message}
use Rattle.smf_restarter.specs.Ticks.{own_tick, reply_to_tick}
use Rattle.smf_world.specs.declared.event.Event.{Event}
use Rattle.smf_world.specs.declared.event.Event.TheVariants as events
use Rattle.smf_world.specs.declared.event.SpawnAnswer.{SpawnAnswer}
use Rattle.smf_world.specs.declared.event.SpawnAnswer.TheVariants as spawns
use Rattle.smf_world.specs.declared.work.Work.{Work}
use Rattle.smf_world.specs.Formed.{IsFormed}
use Rattle.smf_world.specs.Spelled.{IsFormedEvent, IsInOrder}
use Rattle.smf_world.specs.Worked.{work_of_turn, answer_to, booted_as, work_of_call, changes_or_view, work_of_command, work_of_crash, work_of_delivery, delivered_if, heard_by, holder, is_launched, work_of_join, known_of, launched_if, own_ticked, process_call, work_with_answers, reported_by, reported_to, restarter, sent_at, ticked_for, work_of_timeout, work_on_message, work_of_event}
use Rattle.smf_world.specs.World.{World}
use Rattle.smf_world.proofs.DecidedQuiet.{IsAsked, Quiet, heard_quiet, own_quiet, tick_quiet}
use Rattle.smf_world.proofs.FormedCommands.{command_formed}
use Rattle.smf_world.proofs.FormedChanges.{IsFormedBy}
use Rattle.smf_world.proofs.LiveLists.{Each}
use Rattle.smf_world.proofs.RowGrants.{answers}
use Rattle.smf_world.proofs.RowMoves.{Answers, Refuses, again, anew, limited, refused}
use Rattle.smf_world.proofs.Questions.{of_question}
use Rattle.smf_world.proofs.SpelledChanges.{answer_in_order, answer_spelled}
use Rattle.smf_world.proofs.SpelledShown.{known_rise, view_has_bodies, view_rises}

-- ---- what is asked of messages and of changes

-- a command that no client gives
abbrev IsOwn : Command → Type 0
IsOwn (commands.Edit e) = ⊥
IsOwn _ = Unit {0}

-- P holds of the messages that may be sent while this is held, and Q of the changes that no client asks for
pub record Says (P : Message → Type 0) (Q : Change → Type 0) (h : Holdings) : Type 0 where
  pub own : (m : Message) → IsAsked m → P m
  pub ack : (name : List ℕ) (launch serial n : ℕ) (row : Row) → P (messages.Ack name launch serial n row)
  pub ask : (seen : Option View) → P (question seen)
  pub order : (o : Order) → P (messages.Order o)
  pub rows : (name : List ℕ) (launch : ℕ) → P (messages.Rows name launch (map known_of (rows_of h name)))
  pub nack : (name : List ℕ) (launch serial n : ℕ) (why : Why) (row : Option Row) → is_some row ≡ has_row why
      → P (messages.Nack name launch serial n why row)
  pub shown : P (messages.View (view h))
  pub since : (nss : List (List ℕ)) (from : ℕ) → P (changes_or_view h from (changes_since nss h from))
  pub changes : (c : Command) → IsOwn c → AllByRecursion Q (outcome_of_command h c).changes

-- Q holds of the changes that a client asks for
abbrev pub Gives : (Change → Type 0) → Holdings → Event → Type 0
Gives Q h (events.Client edit) = AllByRecursion Q (outcome_of_command h (commands.Edit edit)).changes
Gives Q h _ = Unit {0}

pub record Does (P : Message → Type 0) (Q : Change → Type 0) (k : Work) : Type 0 where
  pub says : AllByRecursion P k.messages
  pub makes : AllByRecursion Q k.changes

-- ---- answers

row_of : (h : Holdings) (p : Proposal) (why : Why) (row : Option Row) → Refuses h p why row → is_some row ≡ has_row why
row_of h p whys.NoSuch None r = refl
row_of h p whys.NoSuch (Some s) r = absurd r
row_of h p whys.Launch None r = absurd r
row_of h p whys.Launch (Some s) r = refl
row_of h p whys.Owner None r = absurd r
row_of h p whys.Owner (Some s) r = refl
row_of h p whys.Number None r = absurd r
row_of h p whys.Number (Some s) r = refl
row_of h p whys.Snapshot None r = absurd r
row_of h p whys.Snapshot (Some s) r = refl
row_of h p (whys.Step fault) None r = absurd r
row_of h p (whys.Step fault) (Some s) r = refl

abbrev HasItsRow : CommandReply → Type 0
HasItsRow (replies.Stale why row) = is_some row ≡ has_row why
HasItsRow _ = Unit {0}

has_its_row : (h : Holdings) (p : Proposal) (a : Outcome) → Answers h p a → HasItsRow a.reply
has_its_row h p a (anew r e g) = subst HasItsRow (sym e) tt
has_its_row h p a (again r e none g) = subst HasItsRow (sym e) tt
has_its_row h p a (refused why r e none x) = subst HasItsRow (sym e) (row_of h p why r x.reason)
has_its_row h p a (limited e none) = subst HasItsRow (sym e) tt

says_answer : (P : Message → Type 0) (Q : Change → Type 0) (h : Holdings) (p : Proposal) (a : CommandReply)
    → Says P Q h → HasItsRow a → AllByRecursion P (answer_to p a)
says_answer P Q h p (replies.Granted row) s e = (s.ack p.proposer p.launch p.serial p.instance row, tt)
says_answer P Q h p (replies.Stale why row) s e = (s.nack p.proposer p.launch p.serial p.instance why row e, tt)
says_answer P Q h p _ s e = tt

-- ---- work

command_does : (P : Message → Type 0) (Q : Change → Type 0) (w : World) (c : Command)
    → AllByRecursion Q (outcome_of_command w.now c).changes → Does P Q (work_of_command w c)
unfolding work_of_command
command_does P Q w c a = record { says = tt; makes = a }

proposal_does : (P : Message → Type 0) (Q : Change → Type 0) (w : World) (p : Proposal) → Says P Q w.now
    → Does P Q (work_with_answers p (work_of_command w (commands.Propose p)))
unfolding work_of_command
proposal_does P Q w p s =
    record {
      says = says_answer P Q w.now p (outcome_of_command w.now (commands.Propose p)).reply s
          (has_its_row w.now p (outcome_of_command w.now (commands.Propose p)) (answers w.now p));
      makes = s.changes (commands.Propose p) tt;
    }

all_own : (P : Message → Type 0) → ((m : Message) → IsAsked m → P m) → (ms : List Message) → Each IsAsked ms
    → AllByRecursion P ms
all_own P own [] a = tt
all_own P own (m ∷ ms) a = (own m a.0, all_own P own ms a.1)

heard_does : (P : Message → Type 0) (Q : Change → Type 0) (w : World) (k : Knowledge) (r : Reply) → Says P Q w.now
    → Quiet r → Does P Q (heard_by k r)
unfolding heard_by
heard_does P Q w k r s q = record { says = all_own P s.own r.messages q; makes = tt }

acted_does : (P : Message → Type 0) (Q : Change → Type 0) (w : World) (k : Knowledge) (n : ℕ) (spawn : SpawnAnswer)
    (r : Reply) → Says P Q w.now → Quiet r → Does P Q (work_of_turn w k n spawn r)
unfolding work_of_turn
acted_does P Q w k n spawn r s q = record { says = all_own P s.own r.messages q; makes = tt }

calling_does : (P : Message → Type 0) (Q : Change → Type 0) (t : Contracts) (call : ContractCall)
    → Does P Q (work_of_call t call)
unfolding work_of_call
calling_does P Q t call = record { says = tt; makes = tt }

told_does : (P : Message → Type 0) (Q : Change → Type 0) (w : World) (m : Message) (o : Option Knowledge)
    → Says P Q w.now → Does P Q (work_on_message m o)
told_does P Q w m None s = record { says = tt; makes = tt }
told_does P Q w m (Some k) s = heard_does P Q w k (reply_to_message k m) s (heard_quiet k m)

joined_does : (P : Message → Type 0) (Q : Change → Type 0) (w : World) (name : List ℕ) (launch : ℕ) (b : Bool)
    → Says P Q w.now → Does P Q (work_of_join w name launch b)
joined_does P Q w name launch true s = record { says = (s.rows name launch, tt); makes = tt }
joined_does P Q w name launch false s = record { says = tt; makes = tt }

delivered_does : (P : Message → Type 0) (Q : Change → Type 0) (w : World) (m : Message) → Says P Q w.now
    → Does P Q (work_of_delivery w m)
unfolding work_of_delivery
delivered_does P Q w (messages.Join name launch) s = joined_does P Q w name launch (launch == launch_of w.now name) s
delivered_does P Q w (messages.Rows name launch rows) s =
    told_does P Q w (messages.Rows name launch rows) (restarter w name) s
delivered_does P Q w (messages.Propose p) s = proposal_does P Q w p s
delivered_does P Q w (messages.Ack name launch serial i row) s =
    told_does P Q w (messages.Ack name launch serial i row) (restarter w name) s
delivered_does P Q w (messages.Nack name launch serial i why row) s =
    told_does P Q w (messages.Nack name launch serial i why row) (restarter w name) s
delivered_does P Q w messages.AskView s = record { says = (s.shown, tt); makes = tt }
delivered_does P Q w (messages.View v) s = record { says = tt; makes = tt }
delivered_does P Q w (messages.AskChange from) s =
    record { says = (s.since (recent w.history.first w.history.past) from, tt); makes = tt }
delivered_does P Q w (messages.Changes c) s = record { says = tt; makes = tt }
delivered_does P Q w (messages.Order o) s = told_does P Q w (messages.Order o) (restarter w o.restarter) s

sent_does : (P : Message → Type 0) (Q : Change → Type 0) (w : World) (o : Option Message) → Says P Q w.now
    → Does P Q (delivered_if w o)
sent_does P Q w None s = record { says = tt; makes = tt }
sent_does P Q w (Some m) s = delivered_does P Q w m s

own_does : (P : Message → Type 0) (Q : Change → Type 0) (w : World) (o : Option Knowledge) → Says P Q w.now
    → Does P Q (own_ticked w o)
own_does P Q w None s = record { says = tt; makes = tt }
own_does P Q w (Some k) s = acted_does P Q w k 0 spawns.Made (own_tick k k.stage) s (own_quiet k k.stage)

ticked_does : (P : Message → Type 0) (Q : Change → Type 0) (w : World) (n : ℕ) (spawn : SpawnAnswer)
    (o : Option Knowledge) → Says P Q w.now → Does P Q (ticked_for w n spawn o)
ticked_does P Q w n spawn None s = record { says = tt; makes = tt }
ticked_does P Q w n spawn (Some k) s = acted_does P Q w k n spawn (reply_to_tick k n) s (tick_quiet k n)

reported_by_does : (P : Message → Type 0) (Q : Change → Type 0) (r : Report) (o : Option Knowledge)
    → Does P Q (reported_by r o)
reported_by_does P Q r None = record { says = tt; makes = tt }
reported_by_does P Q r (Some k) = record { says = tt; makes = tt }

reported_does : (P : Message → Type 0) (Q : Change → Type 0) (w : World) (o : Option Report)
    → Does P Q (reported_to w o)
reported_does P Q w None = record { says = tt; makes = tt }
reported_does P Q w (Some r) = reported_by_does P Q r (holder w r.contract.holder)

timed_does : (P : Message → Type 0) (Q : Change → Type 0) (n : ℕ) (o : Option Knowledge)
    → Does P Q (work_of_timeout n o)
timed_does P Q n None = record { says = tt; makes = tt }
timed_does P Q n (Some k) = record { says = tt; makes = tt }

crashed_does : (P : Message → Type 0) (Q : Change → Type 0) (w : World) (o : Option Knowledge)
    → Does P Q (work_of_crash w o)
unfolding work_of_call
crashed_does P Q w None = record { says = tt; makes = tt }
crashed_does P Q w (Some k) = record { says = tt; makes = tt }

launched_does : (P : Message → Type 0) (Q : Change → Type 0) (w : World) (name : List ℕ) (b : Bool) → Says P Q w.now
    → Does P Q (launched_if w name b)
launched_does P Q w name true s = record { says = tt; makes = tt }
launched_does P Q w name false s =
    let d : Does P Q (work_of_command w (commands.Launch name)) =
    command_does P Q w (commands.Launch name) (s.changes (commands.Launch name) tt) in
    record { says = d.says; makes = d.makes }

booted_does : (P : Message → Type 0) (Q : Change → Type 0) (k : Work) (rs : List CommandReply) → Does P Q k
    → Does P Q (booted_as k rs)
booted_does P Q k [] d = d
booted_does P Q k (replies.Done ∷ rs) d = record { says = d.says; makes = d.makes }
booted_does P Q k (r ∷ rs) d = d

all_orders : (P : Message → Type 0) → ((o : Order) → P (messages.Order o)) → (os : List Order)
    → AllByRecursion P (map (λ (o : Order). messages.Order o) os)
all_orders P order [] = tt
all_orders P order (o ∷ os) = (order o, all_orders P order os)

pub work_does : (P : Message → Type 0) (Q : Change → Type 0) (w : World) (e : Event) → Says P Q w.now
    → Gives Q w.now e → Does P Q (work_of_event w e)
unfolding work_of_event
work_does P Q w (events.Deliver place) s g = sent_does P Q w (sent_at w place) s
work_does P Q w (events.Client edit) s g = command_does P Q w (commands.Edit edit) g
work_does P Q w events.Ask s g = record { says = (s.ask w.seen, tt); makes = tt }
work_does P Q w events.Orders s g = record { says = all_orders P s.order (orders_seen w.seen); makes = tt }
work_does P Q w (events.OwnTick name) s g = own_does P Q w (restarter w name) s
work_does P Q w (events.Tick name n spawn) s g = ticked_does P Q w n spawn (restarter w name) s
work_does P Q w (events.Process process what) s g = calling_does P Q w.table (process_call process what)
work_does P Q w (events.Report contract number) s g = reported_does P Q w (report_at w.table contract number)
work_does P Q w (events.Timeout name n) s g = timed_does P Q n (restarter w name)
work_does P Q w (events.Crash name) s g = crashed_does P Q w (restarter w name)
work_does P Q w (events.Launch name) s g = launched_does P Q w name (is_launched w name) s
work_does P Q w events.Boot s g =
    booted_does P Q (work_of_command w commands.Boot) (work_of_command w commands.Boot).reply
    (command_does P Q w commands.Boot (s.changes commands.Boot tt))

-- ---- what is sent where numbers were given once, and all is of the program's types

abbrev pub AnyChange : Change → Type 0
AnyChange c = Unit {0}

any_changes : (cs : List Change) → AllByRecursion AnyChange cs
any_changes [] = tt
any_changes (c ∷ cs) = (tt, any_changes cs)

own_in_order : (m : Message) → IsAsked m → IsInOrder m
own_in_order (messages.Join name launch) a = tt
own_in_order (messages.Propose p) a = tt
own_in_order (messages.Rows name launch rows) a = absurd a
own_in_order (messages.Ack name launch serial n row) a = tt
own_in_order (messages.Nack name launch serial n why row) a = absurd a
own_in_order messages.AskView a = tt
own_in_order (messages.AskChange since) a = tt
own_in_order (messages.View v) a = absurd a
own_in_order (messages.Changes news) a = absurd a
own_in_order (messages.Order o) a = tt

own_spelled : (m : Message) → IsAsked m → IsSpelled m
own_spelled (messages.Join name launch) a = tt
own_spelled (messages.Propose p) a = tt
own_spelled (messages.Rows name launch rows) a = absurd a
own_spelled (messages.Ack name launch serial n row) a = tt
own_spelled (messages.Nack name launch serial n why row) a = absurd a
own_spelled messages.AskView a = tt
own_spelled (messages.AskChange since) a = tt
own_spelled (messages.View v) a = absurd a
own_spelled (messages.Changes news) a = absurd a
own_spelled (messages.Order o) a = tt

pub says_in_order : (h : Holdings) → IsNumbered h → Says IsInOrder AnyChange h
says_in_order h n =
    record {
      own = own_in_order;
      ack = λ name launch serial i row. tt;
      ask = λ seen. of_question IsInOrder seen tt (λ m. tt);
      order = λ o. tt;
      rows = λ name launch. known_rise h name n;
      nack = λ name launch serial i why row e. e;
      shown = view_rises h n;
      since = λ nss from. answer_in_order h nss from (view_rises h n);
      changes = λ c own. any_changes (outcome_of_command h c).changes;
    }

pub gives_any : (h : Holdings) (e : Event) → Gives AnyChange h e
gives_any h (events.Client edit) = any_changes (outcome_of_command h (commands.Edit edit)).changes
gives_any h (events.Deliver place) = tt
gives_any h events.Ask = tt
gives_any h events.Orders = tt
gives_any h (events.OwnTick name) = tt
gives_any h (events.Tick name n spawn) = tt
gives_any h (events.Process process what) = tt
gives_any h (events.Report contract number) = tt
gives_any h (events.Timeout name n) = tt
gives_any h (events.Crash name) = tt
gives_any h (events.Launch name) = tt
gives_any h events.Boot = tt

own_formed : (h : Holdings) (c : Command) → IsFormed h → IsOwn c
    → AllByRecursion IsFormedBy (outcome_of_command h c).changes
own_formed h (commands.Edit e) f own = absurd own
own_formed h (commands.Propose p) f own = command_formed h (commands.Propose p) f tt
own_formed h (commands.Launch name) f own = command_formed h (commands.Launch name) f tt
own_formed h commands.Boot f own = command_formed h commands.Boot f tt

pub says_spelled : (h : Holdings) → IsNumbered h → IsFormed h → Says IsSpelled IsFormedBy h
says_spelled h n f =
    record {
      own = own_spelled;
      ack = λ name launch serial i row. tt;
      ask = λ seen. of_question IsSpelled seen tt (λ m. tt);
      order = λ o. tt;
      rows = λ name launch. known_rise h name n;
      nack = λ name launch serial i why row e. e;
      shown = record { rises = view_rises h n; bodies = view_has_bodies h f };
      since = λ nss from. answer_spelled h nss from (view_rises h n) (view_has_bodies h f);
      changes = λ c own. own_formed h c f own;
    }

pub gives_formed : (h : Holdings) (e : Event) → IsFormed h → IsFormedEvent e → Gives IsFormedBy h e
gives_formed h (events.Client edit) f is = command_formed h (commands.Edit edit) f is
gives_formed h (events.Deliver place) f is = tt
gives_formed h events.Ask f is = tt
gives_formed h events.Orders f is = tt
gives_formed h (events.OwnTick name) f is = tt
gives_formed h (events.Tick name n spawn) f is = tt
gives_formed h (events.Process process what) f is = tt
gives_formed h (events.Report contract number) f is = tt
gives_formed h (events.Timeout name n) f is = tt
gives_formed h (events.Crash name) f is = tt
gives_formed h (events.Launch name) f is = tt
gives_formed h events.Boot f is = tt

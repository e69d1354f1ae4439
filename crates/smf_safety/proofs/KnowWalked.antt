-- To the restarters each event is one of three things: a step of one restarter, a command, or neither.
use Rattle.std.proofs.Common.{◌≡◌, ◌⊎◌, inl, inr, ℕ, ◌+◌, ◌==◌, nat_lt, Bool, true, false, if◌then◌else◌, List, [], ◌∷◌, ◌++◌, map, Option, Some, None, is_some, refl, sym, ap, ◌∙◌, subst}
use Rattle.smf_contract.specs.declared.call.ContractCall.{ContractCall}
use Rattle.smf_contract.specs.declared.call.ContractCall.TheVariants as asked_of
use Rattle.smf_contract.specs.declared.contract.Holder.{Holder}
use Rattle.smf_contract.specs.declared.contract.Holder.TheVariants.{Held as HeldBy, Inherited, Abandoned}
use Rattle.smf_contract.specs.declared.contract.Report.{Report}
use Rattle.smf_contract.specs.Called.{emptied_by}
use Rattle.smf_contract.specs.Entries.{Contracts, report_of_event as report_at}
use Rattle.smf_state.specs.declared.step.Proposal.{Proposal}
use Rattle.smf_model.specs.declared.change.Change.{Change}
use Rattle.smf_model.specs.declared.change.Change.TheVariants.{SetRevision}
use Rattle.smf_model.specs.declared.change.Outcome.{Outcome}
use Rattle.smf_model.specs.declared.command.Command.{Command}
use Rattle.smf_model.specs.declared.command.Command.TheVariants as commands
use Rattle.smf_model.specs.declared.command.Edit.{Edit}
use Rattle.smf_model.specs.declared.command.CommandReply.{CommandReply}
use Rattle.smf_model.specs.declared.command.CommandReply.TheVariants as replies
use Rattle.smf_model.specs.History.{holdings_after_commands}
use Rattle.smf_model.specs.Contents.{Holdings}
use Rattle.smf_model.specs.Laws.{IsNumbered}
use Rattle.smf_model.specs.Look.{launch_of}
use Rattle.smf_model.specs.Next.{outcome_of_command, asked_boot, changes_for_boot, greatest, may_not_boot, refusal_with as refusing}
use Rattle.smf_changes.specs.Changes.{changes_since, recent}
use Rattle.smf_engine.specs.Orders.{orders_seen}
use Rattle.smf_wire.specs.declared.message.Known.{Known}
use Rattle.smf_wire.specs.declared.message.Message.{Message}
use Rattle.smf_wire.specs.declared.message.Message.TheVariants as messages
use Rattle.smf_wire.specs.declared.order.Order.{Order}
use Rattle.smf_restarter.specs.declared.reply.Answer.{Answer}
use Rattle.smf_restarter.specs.declared.reply.Begun.{Begun}
use Rattle.smf_restarter.specs.declared.reply.Call.TheVariants as calls
use Rattle.smf_restarter.specs.declared.reply.KnowledgeChange.{KnowledgeChange}
use Rattle.smf_restarter.specs.declared.reply.Reply.{Reply}
use Rattle.smf_restarter.specs.Answers.{change_on_report, timed_out}
use Rattle.smf_restarter.specs.Knowledge.{Knowledge}
use Rattle.smf_restarter.specs.Replies.{reply_to_message}
use Rattle.smf_restarter.specs.Ticks.{own_tick, reply_to_tick}
use Rattle.smf_world.specs.declared.event.Event.{Event}
use Rattle.smf_world.specs.declared.event.Event.TheVariants as events
use Rattle.smf_world.specs.declared.event.SpawnAnswer.{SpawnAnswer}
use Rattle.smf_world.specs.declared.event.SpawnAnswer.TheVariants as spawning
use Rattle.smf_world.specs.declared.item.Item.{Item}
use Rattle.smf_world.specs.declared.item.Item.TheVariants.{Emptied}
use Rattle.smf_world.specs.declared.work.Becomes.TheVariants as becomes
use Rattle.smf_world.specs.declared.work.Work.{Work}
use Rattle.smf_world.specs.Items.{items_of}
use Rattle.smf_world.specs.Safe.{WasSpawned}
use Rattle.smf_world.specs.Worked.{accepted_command, work_of_turn, answer_of, answer_to, begun_in, begun_item, begun_items, booted_as, call_of, work_of_call, work_of_command, work_of_crash, work_of_delivery, delivered_if, emptied_items, heard_by, held_items, holder, is_actor, is_launched, work_of_join, knows, launched_as, launched_if, no_work, own_ticked, process_call, reported_by, reported_to, restarter, sent_at, ticked_for, work_of_timeout, work_on_message, work_of_event}
use Rattle.smf_world.specs.World.{World}
use Rattle.smf_world.proofs.LiveEach.{each_in}
use Rattle.smf_world.proofs.LiveLists.{Each, IsIn}
use Rattle.smf_world.proofs.TrailItems.{noted, noted_both, noted_more}
use Rattle.smf_world.proofs.Questions.{of_answer, of_question}
use Rattle.smf_world.proofs.RowClauses.{WasProposed, WasSaid}
use Rattle.smf_safety.proofs.RowEvents.{sent_was_said}
use Rattle.smf_safety.proofs.RowWorld.{NoneBegun, none_begun}
use Rattle.smf_world.proofs.DecidedClauses.{OrderSaid, OrdersSaid}
use Rattle.smf_safety.proofs.KnowSteps.{Does, Doing, doing}
use Rattle.smf_safety.proofs.KnowDone.{WasTold}
use Rattle.smf_safety.proofs.KnowEvery.{BegunBy, IsAside, IsBegunIn}
use Rattle.smf_safety.proofs.KnowReplies.{heard_does, of_reply}
use Rattle.smf_safety.proofs.KnowTicks.{acted_doing, own_does, reported_does, shown_begun, ticked_does, timed_does}
use Rattle.smf_safety.proofs.KnowApart.{found_in, restarter_found}
use Rattle.smf_safety.proofs.KnowSays.{order_given}

abbrev pub begun_on : List Item → ℕ → ℕ → Type 0
begun_on trail n run = WasSpawned n run trail

-- a restarter of this world was told the message
abbrev pub ToldIn : World → Knowledge → Message → Type 0
ToldIn w k m = WasTold w.history w.now w.sent k m

-- ---- the kinds of work

pub record IsStepOf (w : World) (l : Knowledge) (d : Doing) (k : Work) : Type 0 where
  pub is_launched : IsIn l w.restarters
  pub does : Does l (ToldIn w l) d
  pub changes : k.changes ≡ []
  pub command : k.command ≡ []
  pub messages : k.messages ≡ d.said
  pub becomes : k.becomes ≡ knows l d.change
  pub begun : BegunBy (begun_on w.trail) d.begun (begun_on (noted k.items w.trail))

-- nothing but messages that speak of no proposal, and runs that end
pub record IsIdle (w : World) (k : Work) : Type 0 where
  pub changes : k.changes ≡ []
  pub command : k.command ≡ []
  pub messages : Each IsAside k.messages
  pub begun : NoneBegun k.items

-- a command is given to the repository
pub record IsCommand (w : World) (c : Command) (k : Work) : Type 0 where
  pub changes : k.changes ≡ (outcome_of_command w.now c).changes
  pub command : k.command ≡ accepted_command c (outcome_of_command w.now c).changes
  pub items : k.items ≡ items_of w.now c (outcome_of_command w.now c).changes

abbrev pub is_edit : Command → Bool
is_edit (commands.Edit e) = true
is_edit _ = false

pub data IsKnowing (w : World) (k : Work) : Type 0 where
  steps : (l : Knowledge) (d : Doing) → IsStepOf w l d k → IsKnowing w k
  idles : IsIdle w k → k.becomes ≡ [] → IsKnowing w k
  leaves : (name : List ℕ) → IsIdle w k → k.becomes ≡ becomes.Gone name ∷ [] → IsKnowing w k
  edits : (c : Command) → is_edit c ≡ true → IsCommand w c k → k.messages ≡ [] → k.becomes ≡ [] → IsKnowing w k
  answers : (p : Proposal) → WasProposed p w.sent → IsCommand w (commands.Propose p) k
      → k.messages ≡ answer_to p (outcome_of_command w.now (commands.Propose p)).reply → k.becomes ≡ [] → IsKnowing w k
  begins : (name : List ℕ) → restarter w name ≡ None → IsCommand w (commands.Launch name) k → k.messages ≡ []
      → k.becomes ≡ launched_as w name ((outcome_of_command w.now (commands.Launch name)).reply ∷ []) → IsKnowing w k
  boots : IsCommand w commands.Boot k → k.messages ≡ [] → k.becomes ≡ becomes.NoneLeft ∷ [] → IsKnowing w k

-- ---- items

held_none : (k : Knowledge) (xs : List Known) → NoneBegun (held_items k xs)
held_none k [] = tt
held_none k (x ∷ xs) = held_none k xs

each_emptied : (cs : List ℕ) → NoneBegun (map (λ (c : ℕ). Emptied c) cs)
each_emptied [] = tt
each_emptied (c ∷ cs) = each_emptied cs

emptied_none : (t : Contracts) (call : ContractCall) → NoneBegun (emptied_items t call)
emptied_none t call = each_emptied (emptied_by t call)

none_by : (xs t : List Item) → NoneBegun xs → BegunBy (begun_on t) [] (begun_on (noted xs t))
none_by xs t none n run w = inl (none_begun n run xs t none w)

begun_one : (c : ℕ) (bs : List Begun) (t : List Item)
    → BegunBy (begun_on t) bs (begun_on (noted (map (begun_item c) bs) t))
begun_one c [] t n run w = inl w
begun_one c (b ∷ bs) t n run w =
    by (begun_one c bs (begun_item c b ∷ t) n run
    (subst (WasSpawned n run) (noted_more (begun_item c b) (map (begun_item c) bs) t) w))
  where
    first : ((b.instance ≡ n) × (b.run ≡ run)) ⊎ WasSpawned n run t → WasSpawned n run t ⊎ IsBegunIn n run (b ∷ bs)
    first (inl e) = inr (inl e)
    first (inr x) = inl x

    by : WasSpawned n run (begun_item c b ∷ t) ⊎ IsBegunIn n run bs → WasSpawned n run t ⊎ IsBegunIn n run (b ∷ bs)
    by (inl x) = first x
    by (inr x) = inr (inr x)

begun_shown : (o : Option ℕ) (bs : List Begun) (t : List Item)
    → BegunBy (begun_on t) (shown_begun o bs) (begun_on (noted (begun_items o bs) t))
begun_shown None bs t n run w = inl w
begun_shown (Some c) bs t n run w = begun_one c bs t n run w

begun_between : (rows begun emptied : List Item) (bs : List Begun) (t : List Item) → NoneBegun rows
    → NoneBegun emptied → ((u : List Item) → BegunBy (begun_on u) bs (begun_on (noted begun u)))
    → BegunBy (begun_on t) bs (begun_on (noted (rows ++ begun ++ emptied) t))
begun_between rows begun emptied bs t none last mid n run w =
    by (mid (noted rows t) n run
    (none_begun n run emptied (noted begun (noted rows t)) last
    (subst (WasSpawned n run)
    (noted_both (rows ++ begun) emptied t ∙ ap (noted emptied) (noted_both rows begun t)) w)))
  where
    by : WasSpawned n run (noted rows t) ⊎ IsBegunIn n run bs → WasSpawned n run t ⊎ IsBegunIn n run bs
    by (inl x) = inl (none_begun n run rows t none x)
    by (inr x) = inr x

-- ---- nothing

nothing_idle : (w : World) → IsIdle w no_work
nothing_idle w = record { changes = refl; command = refl; messages = tt; begun = tt }

nothing_knows : (w : World) → IsKnowing w no_work
nothing_knows w = idles (nothing_idle w) refl

-- ---- steps

heard_knows : (w : World) (m : Message) (l : Knowledge) → IsIn l w.restarters → ToldIn w l m
    → IsKnowing w (heard_by l (reply_to_message l m))
unfolding heard_by
heard_knows w m l there t =
    steps l (of_reply (reply_to_message l m))
    (record {
      is_launched = there;
      does = heard_does l (ToldIn w l) m t;
      changes = refl;
      command = refl;
      messages = refl;
      becomes = refl;
      begun = λ n run x. inl
          (none_begun n run (held_items l (reply_to_message l m).taken) w.trail
          (held_none l (reply_to_message l m).taken) x);
    })

acted_knows : (w : World) (l : Knowledge) (n : ℕ) (spawn : SpawnAnswer) (r : Reply) → IsIn l w.restarters
    → Does l (ToldIn w l) (acted_doing w l n spawn r) → IsKnowing w (work_of_turn w l n spawn r)
unfolding work_of_turn
acted_knows w l n spawn r there does =
    let a : Answer = answer_of w.table l.actor spawn r.call in
    let call : ContractCall = call_of l.actor r.call a in
    steps l (acted_doing w l n spawn r)
    (record {
      is_launched = there;
      does = does;
      changes = refl;
      command = refl;
      messages = refl;
      becomes = refl;
      begun = begun_between (held_items l r.taken) (begun_items (begun_in r.call a) r.begun)
          (emptied_items w.table call) (shown_begun (begun_in r.call a) r.begun) w.trail
          (held_none l r.taken) (emptied_none w.table call) (λ u. begun_shown (begun_in r.call a) r.begun u);
    })

learns_knows : (w : World) (l : Knowledge) (c : KnowledgeChange) → IsIn l w.restarters
    → Does l (ToldIn w l) (doing c [] [] calls.Nothing) → IsKnowing w (record no_work { becomes = knows l c })
learns_knows w l c there does =
    steps l (doing c [] [] calls.Nothing)
    (record {
      is_launched = there;
      does = does;
      changes = refl;
      command = refl;
      messages = refl;
      becomes = refl;
      begun = λ n run x. inl x;
    })

-- ---- messages

told_knows : (w : World) (m : Message) (name : List ℕ) → ((l : Knowledge) → l.name ≡ name → ToldIn w l m)
    → IsKnowing w (work_on_message m (restarter w name))
told_knows w m name to = by (restarter w name) refl
  where
    by : (o : Option Knowledge) → restarter w name ≡ o → IsKnowing w (work_on_message m o)
    by None e = nothing_knows w
    by (Some l) e = let f = restarter_found name w.restarters l e in heard_knows w m l f.0 (to l f.1)

joined_knows : (w : World) (name : List ℕ) (launch : ℕ) (b : Bool) → IsKnowing w (work_of_join w name launch b)
joined_knows w name launch true =
    idles (record { changes = refl; command = refl; messages = (tt, tt); begun = tt }) refl
joined_knows w name launch false = nothing_knows w

proposed_knows : (w : World) (p : Proposal) → WasProposed p w.sent
    → IsKnowing w (work_of_delivery w (messages.Propose p))
unfolding work_of_delivery work_of_command
proposed_knows w p s = answers p s (record { changes = refl; command = refl; items = refl }) refl refl

-- the world holds the newest value of its history, and its orders agree with the history
pub record HasOrders (w : World) : Type 0 where
  pub numbered : IsNumbered w.history.first
  pub newest : w.now ≡ holdings_after_commands w.history.first w.history.past
  pub orders : OrdersSaid w.history w.sent

delivered_knows : (w : World) (m : Message) → HasOrders w → WasSaid m w.sent → IsKnowing w (work_of_delivery w m)
unfolding work_of_delivery
delivered_knows w (messages.Join name launch) h s = joined_knows w name launch (launch == launch_of w.now name)
delivered_knows w (messages.Rows name launch rows) h s =
    told_knows w (messages.Rows name launch rows) name (λ l e. record { said = s; to = sym e })
delivered_knows w (messages.Propose p) h s = proposed_knows w p s
delivered_knows w (messages.Ack name launch serial i row) h s =
    told_knows w (messages.Ack name launch serial i row) name (λ l e. record { said = s; to = sym e })
delivered_knows w (messages.Nack name launch serial i why row) h s =
    told_knows w (messages.Nack name launch serial i why row) name (λ l e. record { said = s; to = sym e })
delivered_knows w messages.AskView h s =
    idles (record { changes = refl; command = refl; messages = (tt, tt); begun = tt }) refl
delivered_knows w (messages.View v) h s =
    idles (record { changes = refl; command = refl; messages = tt; begun = tt }) refl
delivered_knows w (messages.AskChange from) h s =
    idles (record {
      changes = refl;
      command = refl;
      messages = (
        of_answer IsAside w.now from (changes_since (recent w.history.first w.history.past) w.now from) tt
            (λ c. tt),
        tt,
      );
      begun = tt;
    }) refl
delivered_knows w (messages.Changes c) h s =
    idles (record { changes = refl; command = refl; messages = tt; begun = tt }) refl
delivered_knows w (messages.Order o) h s =
    told_knows w (messages.Order o) o.restarter
    (λ l e. record {
      said = s;
      to = order_given w.history w.now l o h.numbered h.newest
          (each_in (OrderSaid w.history) (messages.Order o) w.sent h.orders s) (sym e);
    })

sent_knows : (w : World) (place : ℕ) → HasOrders w → IsKnowing w (delivered_if w (sent_at w place))
sent_knows w place h = by (sent_at w place) refl
  where
    by : (o : Option Message) → sent_at w place ≡ o → IsKnowing w (delivered_if w o)
    by None e = nothing_knows w
    by (Some m) e = delivered_knows w m h (sent_was_said w place m e)

all_aside : (os : List Order) → Each IsAside (map (λ (o : Order). messages.Order o) os)
all_aside [] = tt
all_aside (o ∷ os) = (tt, all_aside os)

-- ---- turns, reports, time-outs

own_knows : (w : World) (name : List ℕ) → IsKnowing w (own_ticked w (restarter w name))
own_knows w name = by (restarter w name) refl
  where
    by : (o : Option Knowledge) → restarter w name ≡ o → IsKnowing w (own_ticked w o)
    by None e = nothing_knows w
    by (Some l) e =
        acted_knows w l 0 spawning.Made (own_tick l l.stage) (restarter_found name w.restarters l e).0
        (own_does w l (ToldIn w l) l.stage refl)

ticked_knows : (w : World) (name : List ℕ) (n : ℕ) (spawn : SpawnAnswer)
    → IsKnowing w (ticked_for w n spawn (restarter w name))
ticked_knows w name n spawn = by (restarter w name) refl
  where
    by : (o : Option Knowledge) → restarter w name ≡ o → IsKnowing w (ticked_for w n spawn o)
    by None e = nothing_knows w
    by (Some l) e =
        acted_knows w l n spawn (reply_to_tick l n) (restarter_found name w.restarters l e).0
        (ticked_does w l n spawn (ToldIn w l))

reporting_knows : (w : World) (r : Report) (o : Option Knowledge)
    → ((l : Knowledge) → o ≡ Some l → IsIn l w.restarters) → IsKnowing w (reported_by r o)
reporting_knows w r None there = nothing_knows w
reporting_knows w r (Some l) there =
    learns_knows w l (change_on_report l r) (there l refl) (reported_does l (ToldIn w l) r)

holder_in : (w : World) (x : Holder) (l : Knowledge) → holder w x ≡ Some l → IsIn l w.restarters
holder_in w (HeldBy actor) l e = (found_in (is_actor actor) w.restarters l e).0
holder_in w Inherited l e = absurd (let f : None ≡ Some l = e in cc)
holder_in w Abandoned l e = absurd (let f : None ≡ Some l = e in cc)

reported_knows : (w : World) (o : Option Report) → IsKnowing w (reported_to w o)
reported_knows w None = nothing_knows w
reported_knows w (Some r) = reporting_knows w r (holder w r.contract.holder) (λ l e. holder_in w r.contract.holder l e)

timed_knows : (w : World) (name : List ℕ) (n : ℕ) → IsKnowing w (work_of_timeout n (restarter w name))
timed_knows w name n = by (restarter w name) refl
  where
    by : (o : Option Knowledge) → restarter w name ≡ o → IsKnowing w (work_of_timeout n o)
    by None e = nothing_knows w
    by (Some l) e =
        learns_knows w l (timed_out l n) (restarter_found name w.restarters l e).0 (timed_does l (ToldIn w l) n)

-- ---- contracts, crashes

calling_knows : (w : World) (call : ContractCall) → IsKnowing w (work_of_call w.table call)
unfolding work_of_call
calling_knows w call =
    idles (record { changes = refl; command = refl; messages = tt; begun = emptied_none w.table call }) refl

crashed_knows : (w : World) (o : Option Knowledge) → IsKnowing w (work_of_crash w o)
unfolding work_of_call
crashed_knows w None = nothing_knows w
crashed_knows w (Some l) =
    leaves l.name
    (record { changes = refl; command = refl; messages = tt; begun = emptied_none w.table (asked_of.Gone l.actor) })
    refl

-- ---- commands

edit_knows : (w : World) (e : Edit) → IsKnowing w (work_of_command w (commands.Edit e))
unfolding work_of_command
edit_knows w e = edits (commands.Edit e) refl (record { changes = refl; command = refl; items = refl }) refl refl

launch_knows : (w : World) (name : List ℕ) → restarter w name ≡ None → IsKnowing w (launched_if w name false)
unfolding work_of_command
launch_knows w name none = begins name none (record { changes = refl; command = refl; items = refl }) refl refl

launched_knows : (w : World) (name : List ℕ) → IsKnowing w (launched_if w name (is_launched w name))
launched_knows w name = by (restarter w name) refl
  where
    by : (o : Option Knowledge) → restarter w name ≡ o → IsKnowing w (launched_if w name (is_some o))
    by None e = launch_knows w name e
    by (Some l) e = nothing_knows w

-- a boot that is refused changes nothing
abbrev IsBooted : Outcome → Type 0
IsBooted r = (r.reply ≡ replies.Done) ⊎ ((r.changes ≡ []) × (r.reply ≡ replies.Limit))

boot_is : (h : Holdings) → IsBooted (outcome_of_command h commands.Boot)
unfolding outcome_of_command asked_boot
boot_is h = by (may_not_boot h) (nat_lt h.revision greatest)
  where
    by : (a b : Bool)
        → IsBooted (if a then refusing replies.Limit
        else (if b then
        (record { changes = changes_for_boot h ++ SetRevision (h.revision + 1) ∷ []; reply = replies.Done })
        else refusing replies.Limit))
    by true b = inr (refl, refl)
    by false true = inl refl
    by false false = inr (refl, refl)

boot_knows : (w : World) (r : Outcome) → r ≡ outcome_of_command w.now commands.Boot → IsBooted r
    → IsKnowing w (booted_as (work_of_command w commands.Boot) (r.reply ∷ []))
unfolding work_of_command items_of
boot_knows w r e (inl done) =
    subst (λ (x : CommandReply). IsKnowing w (booted_as (work_of_command w commands.Boot) (x ∷ []))) (sym done)
    (boots (record { changes = refl; command = refl; items = refl }) refl refl)
boot_knows w r e (inr x) =
    subst (λ (y : CommandReply). IsKnowing w (booted_as (work_of_command w commands.Boot) (y ∷ []))) (sym x.1)
    (idles (record {
      changes = ap (λ (o : Outcome). o.changes) (sym e) ∙ x.0;
      command = ap (λ (o : Outcome). accepted_command commands.Boot o.changes) (sym e)
          ∙ ap (accepted_command commands.Boot) x.0;
      messages = tt;
      begun = subst (λ (cs : List Change). NoneBegun (items_of w.now commands.Boot cs))
          (sym (ap (λ (o : Outcome). o.changes) (sym e) ∙ x.0)) tt;
    }) refl)

booted_knows : (w : World)
    → IsKnowing w (booted_as (work_of_command w commands.Boot) (work_of_command w commands.Boot).reply)
unfolding work_of_command
booted_knows w = boot_knows w (outcome_of_command w.now commands.Boot) refl (boot_is w.now)

-- ---- events

pub knowing : (w : World) (e : Event) → HasOrders w → IsKnowing w (work_of_event w e)
unfolding work_of_event
knowing w (events.Deliver place) h = sent_knows w place h
knowing w (events.Client edit) h = edit_knows w edit
knowing w events.Ask h =
    idles (record {
      changes = refl;
      command = refl;
      messages = (of_question IsAside w.seen tt (λ n. tt), tt);
      begun = tt;
    }) refl
knowing w events.Orders h =
    idles (record { changes = refl; command = refl; messages = all_aside (orders_seen w.seen); begun = tt }) refl
knowing w (events.OwnTick name) h = own_knows w name
knowing w (events.Tick name n spawn) h = ticked_knows w name n spawn
knowing w (events.Process process what) h = calling_knows w (process_call process what)
knowing w (events.Report contract number) h = reported_knows w (report_at w.table contract number)
knowing w (events.Timeout name n) h = timed_knows w name n
knowing w (events.Crash name) h = crashed_knows w (restarter w name)
knowing w (events.Launch name) h = launched_knows w name
knowing w events.Boot h = booted_knows w

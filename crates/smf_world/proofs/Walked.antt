-- The work of an event is that of a command, or nothing that the repository sees.
use Rattle.std.proofs.Common.{◌≡◌, ◌==◌, ℕ, Bool, true, false, List, [], ◌∷◌, ◌++◌, map, Option, Some, None, refl}
use Rattle.smf_contract.specs.declared.call.ContractCall.{ContractCall}
use Rattle.smf_contract.specs.declared.contract.Report.{Report}
use Rattle.smf_contract.specs.Called.{emptied_by}
use Rattle.smf_contract.specs.Entries.{Contracts, report_of_event as report_at}
use Rattle.smf_model.specs.declared.change.Change.{Change}
use Rattle.smf_model.specs.declared.command.Command.{Command}
use Rattle.smf_model.specs.declared.command.Command.TheVariants as commands
use Rattle.smf_model.specs.declared.command.CommandReply.{CommandReply}
use Rattle.smf_model.specs.declared.command.CommandReply.TheVariants as replies
use Rattle.smf_model.specs.Contents.{Holdings}
use Rattle.smf_model.specs.Look.{launch_of}
use Rattle.smf_model.specs.Next.{outcome_of_command}
use Rattle.smf_wire.specs.declared.message.Known.{Known}
use Rattle.smf_wire.specs.declared.message.Message.{Message}
use Rattle.smf_wire.specs.declared.message.Message.TheVariants as messages
use Rattle.smf_restarter.specs.declared.reply.Answer.{Answer}
use Rattle.smf_restarter.specs.declared.reply.Begun.{Begun}
use Rattle.smf_restarter.specs.declared.reply.Reply.{Reply}
use Rattle.smf_restarter.specs.Knowledge.{Knowledge}
use Rattle.smf_restarter.specs.Replies.{reply_to_message}
use Rattle.smf_restarter.specs.Ticks.{own_tick, reply_to_tick}
use Rattle.smf_world.specs.declared.event.Event.{Event}
use Rattle.smf_world.specs.declared.event.Event.TheVariants as events
use Rattle.smf_world.specs.declared.event.SpawnAnswer.{SpawnAnswer}
use Rattle.smf_world.specs.declared.event.SpawnAnswer.TheVariants as spawns
use Rattle.smf_world.specs.declared.item.Item.{Item}
use Rattle.smf_world.specs.declared.item.Item.TheVariants.{Emptied}
use Rattle.smf_world.specs.declared.work.Work.{Work}
use Rattle.smf_world.specs.Items.{items_of}
use Rattle.smf_world.specs.Worked.{accepted_command, work_of_turn, answer_of, begun_in, begun_items, booted_as, call_of, work_of_call, work_of_command, work_of_crash, work_of_delivery, delivered_if, emptied_items, heard_by, held_items, holder, is_launched, work_of_join, launched_if, own_ticked, process_call, reported_by, reported_to, restarter, sent_at, ticked_for, work_of_timeout, work_on_message, work_of_event}
use Rattle.smf_world.specs.World.{World}
use Rattle.smf_world.proofs.TrailItems.{AllCommit, both_commit}

-- nothing changes, and no item is a commit; or a command is given to the repository
pub data IsWalked (h : Holdings) (cs : List Change) (past : List Command) (items : List Item) : Type 0 where
  still : cs ≡ [] → past ≡ [] → AllCommit false items → IsWalked h cs past items
  gives : (c : Command) → cs ≡ (outcome_of_command h c).changes
      → past ≡ accepted_command c (outcome_of_command h c).changes
      → items ≡ items_of h c (outcome_of_command h c).changes → IsWalked h cs past items

abbrev pub Walked : World → Work → Type 0
Walked w k = IsWalked w.now k.changes k.command k.items

walk_command : (w : World) (c : Command) → Walked w (work_of_command w c)
unfolding work_of_command
walk_command w c = gives c refl refl refl

-- ---- items that are no commits

held_others : (k : Knowledge) (xs : List Known) → AllCommit false (held_items k xs)
held_others k [] = tt
held_others k (x ∷ xs) = (refl, held_others k xs)

begun_others : (o : Option ℕ) (bs : List Begun) → AllCommit false (begun_items o bs)
begun_others None bs = tt
begun_others (Some c) [] = tt
begun_others (Some c) (b ∷ bs) = (refl, begun_others (Some c) bs)

each_emptied : (cs : List ℕ) → AllCommit false (map (λ (c : ℕ). Emptied c) cs)
each_emptied [] = tt
each_emptied (c ∷ cs) = (refl, each_emptied cs)

emptied_others : (t : Contracts) (call : ContractCall) → AllCommit false (emptied_items t call)
emptied_others t call = each_emptied (emptied_by t call)

-- ---- messages

walk_told : (w : World) (m : Message) (o : Option Knowledge) → Walked w (work_on_message m o)
unfolding heard_by
walk_told w m None = still refl refl tt
walk_told w m (Some k) = still refl refl (held_others k (reply_to_message k m).taken)

walk_joined : (w : World) (name : List ℕ) (launch : ℕ) (b : Bool) → Walked w (work_of_join w name launch b)
walk_joined w name launch true = still refl refl tt
walk_joined w name launch false = still refl refl tt

walk_delivered : (w : World) (m : Message) → Walked w (work_of_delivery w m)
unfolding work_of_delivery
walk_delivered w (messages.Join name launch) = walk_joined w name launch (launch == launch_of w.now name)
walk_delivered w (messages.Rows name launch rows) = walk_told w (messages.Rows name launch rows) (restarter w name)
walk_delivered w (messages.Propose p) = walk_command w (commands.Propose p)
walk_delivered w (messages.Ack name launch serial i row) =
    walk_told w (messages.Ack name launch serial i row) (restarter w name)
walk_delivered w (messages.Nack name launch serial i why row) =
    walk_told w (messages.Nack name launch serial i why row) (restarter w name)
walk_delivered w messages.AskView = still refl refl tt
walk_delivered w (messages.AskChange since) = still refl refl tt
walk_delivered w (messages.View v) = still refl refl tt
walk_delivered w (messages.Changes news) = still refl refl tt
walk_delivered w (messages.Order o) = walk_told w (messages.Order o) (restarter w o.restarter)

walk_sent : (w : World) (o : Option Message) → Walked w (delivered_if w o)
walk_sent w None = still refl refl tt
walk_sent w (Some m) = walk_delivered w m

-- ---- the other events

walk_acted : (w : World) (k : Knowledge) (n : ℕ) (spawn : SpawnAnswer) (r : Reply)
    → Walked w (work_of_turn w k n spawn r)
unfolding work_of_turn
walk_acted w k n spawn r =
    let a : Answer = answer_of w.table k.actor spawn r.call in
    let call : ContractCall = call_of k.actor r.call a in
    still refl refl
    (both_commit false (held_items k r.taken ++ begun_items (begun_in r.call a) r.begun)
    (emptied_items w.table call)
    (both_commit false (held_items k r.taken) (begun_items (begun_in r.call a) r.begun) (held_others k r.taken)
    (begun_others (begun_in r.call a) r.begun))
    (emptied_others w.table call))

walk_own : (w : World) (o : Option Knowledge) → Walked w (own_ticked w o)
walk_own w None = still refl refl tt
walk_own w (Some k) = walk_acted w k 0 spawns.Made (own_tick k k.stage)

walk_ticked : (w : World) (n : ℕ) (spawn : SpawnAnswer) (o : Option Knowledge) → Walked w (ticked_for w n spawn o)
walk_ticked w n spawn None = still refl refl tt
walk_ticked w n spawn (Some k) = walk_acted w k n spawn (reply_to_tick k n)

walk_calling : (w : World) (call : ContractCall) → Walked w (work_of_call w.table call)
unfolding work_of_call
walk_calling w call = still refl refl (emptied_others w.table call)

walk_reported_by : (w : World) (r : Report) (o : Option Knowledge) → Walked w (reported_by r o)
walk_reported_by w r None = still refl refl tt
walk_reported_by w r (Some k) = still refl refl tt

walk_reported : (w : World) (o : Option Report) → Walked w (reported_to w o)
walk_reported w None = still refl refl tt
walk_reported w (Some r) = walk_reported_by w r (holder w r.contract.holder)

walk_timed : (w : World) (n : ℕ) (o : Option Knowledge) → Walked w (work_of_timeout n o)
walk_timed w n None = still refl refl tt
walk_timed w n (Some k) = still refl refl tt

walk_crashed : (w : World) (o : Option Knowledge) → Walked w (work_of_crash w o)
unfolding work_of_call
walk_crashed w None = still refl refl tt
walk_crashed w (Some k) = still refl refl (emptied_others w.table _)

walk_launched : (w : World) (name : List ℕ) (b : Bool) → Walked w (launched_if w name b)
walk_launched w name true = still refl refl tt
walk_launched w name false = walk_command w (commands.Launch name)

walk_booted : (w : World) (k : Work) (rs : List CommandReply) → Walked w k → Walked w (booted_as k rs)
walk_booted w k [] a = a
walk_booted w k (replies.Done ∷ rs) a = a
walk_booted w k (r ∷ rs) a = a

pub walked : (w : World) (e : Event) → Walked w (work_of_event w e)
unfolding work_of_event
walked w (events.Deliver place) = walk_sent w (sent_at w place)
walked w (events.Client edit) = walk_command w (commands.Edit edit)
walked w events.Ask = still refl refl tt
walked w events.Orders = still refl refl tt
walked w (events.OwnTick name) = walk_own w (restarter w name)
walked w (events.Tick name n spawn) = walk_ticked w n spawn (restarter w name)
walked w (events.Process process what) = walk_calling w (process_call process what)
walked w (events.Report contract number) = walk_reported w (report_at w.table contract number)
walked w (events.Timeout name n) = walk_timed w n (restarter w name)
walked w (events.Crash name) = walk_crashed w (restarter w name)
walked w (events.Launch name) = walk_launched w name (is_launched w name)
walked w events.Boot =
    walk_booted w (work_of_command w commands.Boot) (work_of_command w commands.Boot).reply
    (walk_command w commands.Boot)

-- The work of each event, found before anything changes.
use Rattle.std.specs.Prelude.{ℕ, ◌+◌, ◌==◌, nat_eq, List, [], ◌∷◌, ◌++◌, map, find, reverse, slice_get, Bool, true, false, if◌then◌else◌, Option, Some, None, is_some, Result, Ok, Err}
use Rattle.std.specs.Cmp.Lexicographic.{pointwise}
use Rattle.smf_contract.specs.declared.call.ContractCall.{ContractCall}
use Rattle.smf_contract.specs.declared.call.ContractCall.TheVariants as calls
use Rattle.smf_contract.specs.declared.contract.Holder.{Holder}
use Rattle.smf_contract.specs.declared.contract.Holder.TheVariants.{Held, Inherited, Abandoned}
use Rattle.smf_contract.specs.declared.contract.Report.{Report}
use Rattle.smf_contract.specs.declared.fault.ContractFault.{ContractFault}
use Rattle.smf_contract.specs.Called.{emptied_by}
use Rattle.smf_contract.specs.Calls.{result_of_adoption, next_contract}
use Rattle.smf_contract.specs.Entries.{Contracts, statuses, report_of_event as report_at}
use Rattle.smf_state.specs.declared.step.Proposal.{Proposal}
use Rattle.smf_state.specs.declared.view.ChangedItem.{ChangedItem}
use Rattle.smf_model.specs.declared.change.Change.{Change}
use Rattle.smf_model.specs.declared.command.Command.{Command}
use Rattle.smf_model.specs.declared.command.Command.TheVariants as commands
use Rattle.smf_model.specs.declared.command.CommandReply.{CommandReply}
use Rattle.smf_model.specs.declared.command.CommandReply.TheVariants as replies
use Rattle.smf_model.specs.declared.change.Outcome.{Outcome}
use Rattle.smf_model.specs.declared.held.Instance.{Instance}
use Rattle.smf_model.specs.Contents.{Holdings}
use Rattle.smf_model.specs.Look.{launch_of}
use Rattle.smf_model.specs.Next.{outcome_of_command}
use Rattle.smf_model.specs.Shown.{rows_of, view}
use Rattle.smf_changes.specs.Changes.{changes_since, recent}
use Rattle.smf_engine.specs.Orders.{orders_seen, question}
use Rattle.smf_wire.specs.declared.message.Known.{Known}
use Rattle.smf_wire.specs.declared.message.Message.{Message}
use Rattle.smf_wire.specs.declared.message.Message.TheVariants as messages
use Rattle.smf_restarter.specs.declared.reply.Answer.{Answer}
use Rattle.smf_restarter.specs.declared.reply.Answer.TheVariants as answers
use Rattle.smf_restarter.specs.declared.reply.Begun.{Begun}
use Rattle.smf_restarter.specs.declared.reply.Call.{Call}
use Rattle.smf_restarter.specs.declared.reply.Call.TheVariants as asks
use Rattle.smf_restarter.specs.declared.reply.KnowledgeChange.{KnowledgeChange}
use Rattle.smf_restarter.specs.declared.reply.Reply.{Reply}
use Rattle.smf_restarter.specs.Answers.{change_on_answer, change_on_list, change_on_report, timed_out}
use Rattle.smf_restarter.specs.Knowledge.{Knowledge}
use Rattle.smf_restarter.specs.Replies.{reply_to_message}
use Rattle.smf_restarter.specs.Ticks.{own_tick, reply_to_tick}
use Rattle.smf_world.specs.declared.event.Event.{Event}
use Rattle.smf_world.specs.declared.event.Event.TheVariants as events
use Rattle.smf_world.specs.declared.event.ProcessEvent.{ProcessEvent}
use Rattle.smf_world.specs.declared.event.ProcessEvent.TheVariants as processes
use Rattle.smf_world.specs.declared.event.SpawnAnswer.{SpawnAnswer}
use Rattle.smf_world.specs.declared.event.SpawnAnswer.TheVariants as spawns
use Rattle.smf_world.specs.declared.item.Item.{Item}
use Rattle.smf_world.specs.declared.item.Item.TheVariants.{Held as HeldRow, Spawned, Emptied}
use Rattle.smf_world.specs.declared.work.Becomes.{Becomes}
use Rattle.smf_world.specs.declared.work.Becomes.TheVariants as becomes
use Rattle.smf_world.specs.declared.work.Work.{Work}
use Rattle.smf_world.specs.Items.{items_of}
use Rattle.smf_world.specs.World.{World}

abbrev pub no_work : Work
no_work =
    record {
      changes = [];
      command = [];
      reply = [];
      items = [];
      messages = [];
      becomes = [];
      seen = [];
      patches = [];
      forgets = false;
      call = calls.Nothing;
    }

abbrev pub work_of_messages : List Message → Work
work_of_messages ms = record no_work { messages = ms }

-- ---- commands

-- a command that makes changes is accepted
abbrev pub accepted_command : Command → List Change → List Command
accepted_command c [] = []
accepted_command c (x ∷ xs) = c ∷ []

abbrev pub work_of : Holdings → Command → Outcome → Work
work_of h c r =
    record no_work {
      changes = r.changes;
      command = accepted_command c r.changes;
      reply = r.reply ∷ [];
      items = items_of h c r.changes;
    }

-- a command is given to the repository
unfoldable pub work_of_command : World → Command → Work
work_of_command w c = work_of w.now c (outcome_of_command w.now c)

-- ---- messages

-- the message at a place, counted from the oldest
abbrev pub sent_at : World → ℕ → Option Message
sent_at w place = slice_get (reverse w.sent) place

abbrev pub known_of : Instance → Known
known_of i = record { instance = i.number; name = i.name; row = i.row }

-- the rows of a restarter, if the launch is its last one
abbrev pub work_of_join : World → List ℕ → ℕ → Bool → Work
work_of_join w name launch true = work_of_messages (messages.Rows name launch (map known_of (rows_of w.now name)) ∷ [])
work_of_join w name launch false = no_work

-- the answer to a proposal; a number at its limit has none
abbrev pub answer_to : Proposal → CommandReply → List Message
answer_to p (replies.Granted row) = messages.Ack p.proposer p.launch p.serial p.instance row ∷ []
answer_to p (replies.Stale why row) = messages.Nack p.proposer p.launch p.serial p.instance why row ∷ []
answer_to p _ = []

abbrev pub answers_to : Proposal → List CommandReply → List Message
answers_to p [] = []
answers_to p (r ∷ rs) = answer_to p r

abbrev pub work_with_answers : Proposal → Work → Work
work_with_answers p k = record k { messages = answers_to p k.reply }

-- ---- restarters

abbrev pub is_named : List ℕ → Knowledge → Bool
is_named name k = pointwise nat_eq k.name name

-- the launched restarter of a name
abbrev pub restarter : World → List ℕ → Option Knowledge
restarter w name = find (is_named name) w.restarters

abbrev pub is_actor : ℕ → Knowledge → Bool
is_actor actor k = k.actor == actor

abbrev pub knows : Knowledge → KnowledgeChange → List Becomes
knows k c = becomes.Knows k.name c ∷ []

abbrev pub work_of_knowledge : Knowledge → KnowledgeChange → Work
work_of_knowledge k c = record no_work { becomes = knows k c }

abbrev pub held_item : Knowledge → Known → Item
held_item k x = HeldRow k.name k.launch x.instance x.row.number x.row.state

abbrev pub held_items : Knowledge → List Known → List Item
held_items k xs = map (held_item k) xs

-- the work of a restarter on a message
unfoldable pub heard_by : Knowledge → Reply → Work
heard_by k r = record no_work { items = held_items k r.taken; messages = r.messages; becomes = knows k r.change }

abbrev pub work_on_message : Message → Option Knowledge → Work
work_on_message m None = no_work
work_on_message m (Some k) = heard_by k (reply_to_message k m)

-- the repository answers with what changed since a revision, or with the view
abbrev pub changes_or_view : Holdings → ℕ → Option (ℕ × List ChangedItem) → Message
changes_or_view h from None = messages.View (view h)
changes_or_view h from (Some c) = messages.Changes (record { from = from; to = c.0; items = c.1 })

abbrev pub answer_since : World → ℕ → Message
answer_since w from = changes_or_view w.now from (changes_since (recent w.history.first w.history.past) w.now from)

-- a message is delivered; one to an actor that is not launched does nothing
unfoldable pub work_of_delivery : World → Message → Work
work_of_delivery w (messages.Join name launch) = work_of_join w name launch (launch == launch_of w.now name)
work_of_delivery w (messages.Rows name launch rows) =
    work_on_message (messages.Rows name launch rows) (restarter w name)
work_of_delivery w (messages.Propose p) = work_with_answers p (work_of_command w (commands.Propose p))
work_of_delivery w (messages.Ack name launch serial i row) =
    work_on_message (messages.Ack name launch serial i row) (restarter w name)
work_of_delivery w (messages.Nack name launch serial i why row) =
    work_on_message (messages.Nack name launch serial i why row) (restarter w name)
work_of_delivery w messages.AskView = work_of_messages (messages.View (view w.now) ∷ [])
work_of_delivery w (messages.View v) = record no_work { seen = v ∷ [] }
work_of_delivery w (messages.AskChange from) = work_of_messages (answer_since w from ∷ [])
work_of_delivery w (messages.Changes c) = record no_work { patches = c ∷ [] }
work_of_delivery w (messages.Order o) = work_on_message (messages.Order o) (restarter w o.restarter)

abbrev pub delivered_if : World → Option Message → Work
delivered_if w None = no_work
delivered_if w (Some m) = work_of_delivery w m

-- ---- calls

-- an adoption that is refused says nothing, and is asked for again
abbrev pub adopt_answer : ℕ → Result Contracts ContractFault → Answer
adopt_answer c (Ok t) = answers.Adopted c
adopt_answer c (Err e) = answers.Nothing

-- a spawn is made if the children make it and the table has a number for it
abbrev pub spawn_answer : SpawnAnswer → Option ℕ → Answer
spawn_answer spawns.Made (Some c) = answers.Spawned c
spawn_answer spawns.Made None = answers.Refused
spawn_answer spawns.Refused next = answers.Refused
spawn_answer spawns.NotFollowed next = answers.NotFollowed

-- the answer to the call that a restarter asks for
unfoldable pub answer_of : Contracts → ℕ → SpawnAnswer → Call → Answer
answer_of t actor spawn asks.Nothing = answers.Nothing
answer_of t actor spawn asks.List = answers.Nothing
answer_of t actor spawn (asks.Adopt c) = adopt_answer c (result_of_adoption t actor c)
answer_of t actor spawn (asks.Spawn cookie terms) = spawn_answer spawn (next_contract t)
answer_of t actor spawn (asks.Kill c) = answers.Nothing

abbrev pub is_spawned : Answer → Bool
is_spawned (answers.Spawned c) = true
is_spawned _ = false

-- the call that is made on the table
unfoldable pub call_of : ℕ → Call → Answer → ContractCall
call_of actor asks.Nothing answer = calls.Nothing
call_of actor asks.List answer = calls.Nothing
call_of actor (asks.Adopt c) answer = calls.Adopt actor c
call_of actor (asks.Spawn cookie terms) answer =
    if is_spawned answer then calls.Spawn actor cookie terms else calls.Nothing
call_of actor (asks.Kill c) answer = calls.Kill actor c

-- the change of a restarter's knowledge after its call
abbrev pub change_after : World → Knowledge → ℕ → Reply → Call → Answer → KnowledgeChange
change_after w k n r asks.Nothing a = r.change
change_after w k n r asks.List a = change_on_list k (statuses w.table)
change_after w k n r (asks.Adopt c) a = change_on_answer k n a
change_after w k n r (asks.Spawn cookie terms) a = change_on_answer k n a
change_after w k n r (asks.Kill c) a = r.change

abbrev pub begun_item : ℕ → Begun → Item
begun_item c b = Spawned c b.instance b.run b.method b.revision b.command

-- the contract of a method that is begun: 0 for a built-in, which has none
abbrev pub begun_in : Call → Answer → Option ℕ
begun_in (asks.Spawn cookie terms) (answers.Spawned c) = Some c
begun_in (asks.Spawn cookie terms) _ = None
begun_in _ a = Some 0

abbrev pub begun_items : Option ℕ → List Begun → List Item
begun_items None bs = []
begun_items (Some c) bs = map (begun_item c) bs

abbrev pub emptied_items : Contracts → ContractCall → List Item
emptied_items t call = map (λ c. Emptied c) (emptied_by t call)

-- a call is made on the table alone
unfoldable pub work_of_call : Contracts → ContractCall → Work
work_of_call t call = record no_work { items = emptied_items t call; call = call }

-- ---- ticks

abbrev pub acted_with : World → Knowledge → ℕ → Reply → Answer → ContractCall → Work
acted_with w k n r a call =
    record no_work {
      items = held_items k r.taken ++ begun_items (begun_in r.call a) r.begun ++ emptied_items w.table call;
      messages = r.messages;
      becomes = knows k (change_after w k n r r.call a);
      call = call;
    }

abbrev pub acted_by : World → Knowledge → ℕ → Reply → Answer → Work
acted_by w k n r a = acted_with w k n r a (call_of k.actor r.call a)

-- the work of a restarter in its turn, for itself (0) or for an instance
unfoldable pub work_of_turn : World → Knowledge → ℕ → SpawnAnswer → Reply → Work
work_of_turn w k n spawn r = acted_by w k n r (answer_of w.table k.actor spawn r.call)

abbrev pub own_ticked : World → Option Knowledge → Work
own_ticked w None = no_work
own_ticked w (Some k) = work_of_turn w k 0 spawns.Made (own_tick k k.stage)

abbrev pub ticked_for : World → ℕ → SpawnAnswer → Option Knowledge → Work
ticked_for w n spawn None = no_work
ticked_for w n spawn (Some k) = work_of_turn w k n spawn (reply_to_tick k n)

-- ---- processes, reports, time-outs

abbrev pub process_call : ℕ → ProcessEvent → ContractCall
process_call p processes.Fork = calls.Fork p
process_call p (processes.Exit exit) = calls.Exit p exit
process_call p (processes.Fail failure) = calls.Fail p failure

abbrev pub reported_by : Report → Option Knowledge → Work
reported_by r None = no_work
reported_by r (Some k) = work_of_knowledge k (change_on_report k r)

-- the launched restarter that holds a contract
abbrev pub holder : World → Holder → Option Knowledge
holder w (Held actor) = find (is_actor actor) w.restarters
holder w Inherited = None
holder w Abandoned = None

abbrev pub reported_to : World → Option Report → Work
reported_to w None = no_work
reported_to w (Some r) = reported_by r (holder w r.contract.holder)

abbrev pub work_of_timeout : ℕ → Option Knowledge → Work
work_of_timeout n None = no_work
work_of_timeout n (Some k) = work_of_knowledge k (timed_out k n)

-- ---- crashes, launches, boots

abbrev pub work_of_crash : World → Option Knowledge → Work
work_of_crash w None = no_work
work_of_crash w (Some k) = record (work_of_call w.table (calls.Gone k.actor)) { becomes = becomes.Gone k.name ∷ [] }

-- a restarter begins with its launch, and the revision that this makes is the actor that holds its contracts
abbrev pub launched_as : World → List ℕ → List CommandReply → List Becomes
launched_as w name (replies.Made launch ∷ rs) = becomes.Launched name (w.now.revision + 1) launch ∷ []
launched_as w name _ = []

abbrev pub work_with_launch : World → List ℕ → Work → Work
work_with_launch w name k = record k { becomes = launched_as w name k.reply }

-- a launch of what is launched is no event
abbrev pub launched_if : World → List ℕ → Bool → Work
launched_if w name true = no_work
launched_if w name false = work_with_launch w name (work_of_command w (commands.Launch name))

abbrev pub is_launched : World → List ℕ → Bool
is_launched w name = is_some (restarter w name)

-- no restarter is left, and no contract; the graph has seen nothing
abbrev pub booted_as : Work → List CommandReply → Work
booted_as k (replies.Done ∷ rs) = record k { becomes = becomes.NoneLeft ∷ []; forgets = true; call = calls.Reboot }
booted_as k _ = k

abbrev pub work_with_boot : Work → Work
work_with_boot k = booted_as k k.reply

-- ---- events

unfoldable pub work_of_event : World → Event → Work
work_of_event w (events.Deliver place) = delivered_if w (sent_at w place)
work_of_event w (events.Client edit) = work_of_command w (commands.Edit edit)
work_of_event w events.Ask = work_of_messages (question w.seen ∷ [])
work_of_event w events.Orders = work_of_messages (map (λ o. messages.Order o) (orders_seen w.seen))
work_of_event w (events.OwnTick name) = own_ticked w (restarter w name)
work_of_event w (events.Tick name n spawn) = ticked_for w n spawn (restarter w name)
work_of_event w (events.Process process what) = work_of_call w.table (process_call process what)
work_of_event w (events.Report contract number) = reported_to w (report_at w.table contract number)
work_of_event w (events.Timeout name n) = work_of_timeout n (restarter w name)
work_of_event w (events.Crash name) = work_of_crash w (restarter w name)
work_of_event w (events.Launch name) = launched_if w name (is_launched w name)
work_of_event w events.Boot = work_with_boot (work_of_command w commands.Boot)

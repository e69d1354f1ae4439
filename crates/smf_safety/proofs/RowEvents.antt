-- Each event keeps the clauses on rows, proposals and answers, if its restarters say only messages that may be said.
use Rattle.std.proofs.Common.{◌≡◌, inl, inr, ℕ, ◌==◌, Bool, true, false, List, [], ◌∷◌, ◌++◌, Option, Some, None, refl, sym, subst}
use Rattle.smf_contract.specs.declared.call.ContractCall.{ContractCall}
use Rattle.smf_contract.specs.declared.contract.Report.{Report}
use Rattle.smf_contract.specs.Entries.{report_of_event as report_at}
use Rattle.smf_state.specs.declared.step.Proposal.{Proposal}
use Rattle.smf_model.specs.declared.change.Change.{Change}
use Rattle.smf_model.specs.declared.command.Command.{Command}
use Rattle.smf_model.specs.declared.command.Command.TheVariants as commands
use Rattle.smf_model.specs.declared.command.Edit.{Edit}
use Rattle.smf_model.specs.declared.command.CommandReply.{CommandReply}
use Rattle.smf_model.specs.declared.command.CommandReply.TheVariants as replies
use Rattle.smf_model.specs.Contents.{Holdings}
use Rattle.smf_model.specs.Look.{holdings_after_changes, launch_of}
use Rattle.smf_model.specs.Next.{outcome_of_command, next}
use Rattle.smf_wire.specs.declared.message.Message.{Message}
use Rattle.smf_wire.specs.declared.message.Message.TheVariants as messages
use Rattle.smf_restarter.specs.declared.reply.Reply.{Reply}
use Rattle.smf_restarter.specs.Knowledge.{Knowledge}
use Rattle.smf_restarter.specs.Ticks.{own_tick, reply_to_tick}
use Rattle.smf_world.specs.declared.event.Event.{Event}
use Rattle.smf_world.specs.declared.event.Event.TheVariants as events
use Rattle.smf_world.specs.declared.event.SpawnAnswer.{SpawnAnswer}
use Rattle.smf_world.specs.declared.event.SpawnAnswer.TheVariants as spawns
use Rattle.smf_world.specs.declared.item.Item.{Item}
use Rattle.smf_world.specs.declared.work.Work.{Work}
use Rattle.smf_world.specs.Worked.{accepted_command, work_of_turn, booted_as, work_of_call, work_of_command, work_of_crash, work_of_delivery, delivered_if, heard_by, holder, is_launched, work_of_join, launched_if, own_ticked, process_call, reported_by, reported_to, restarter, sent_at, ticked_for, work_of_timeout, work_on_message, work_of_event}
use Rattle.smf_world.specs.World.{World}
use Rattle.smf_world.proofs.ItemsMade.{AreMade}
use Rattle.smf_world.proofs.LiveEach.{each_later, each_sent}
use Rattle.smf_world.proofs.LiveLists.{Each}
use Rattle.smf_world.proofs.RowClauses.{WasProposed, WasSaid}
use Rattle.smf_safety.proofs.RowWorld.{rows_commanded}
use Rattle.smf_safety.proofs.SaidClauses.{AreRows}
use Rattle.smf_safety.proofs.SaidLater.{IsAskable}

-- ---- what an event asks of the repository

-- nothing is asked; or a command is given to it, and a proposal is one that was said
pub data IsAskedOf (h : Holdings) (ms : List Message) (cs : List Change) (past : List Command) : Type 0 where
  still : cs ≡ [] → past ≡ [] → IsAskedOf h ms cs past
  asks : (c : Command) → cs ≡ (outcome_of_command h c).changes
      → past ≡ accepted_command c (outcome_of_command h c).changes → IsAskable ms c → IsAskedOf h ms cs past

abbrev pub Asks : World → Work → Type 0
Asks w k = IsAskedOf w.now w.sent k.changes k.command

commands_ask : (w : World) (c : Command) → IsAskable w.sent c → Asks w (work_of_command w c)
unfolding work_of_command
commands_ask w c a = asks c refl refl a

asks_told : (w : World) (m : Message) (o : Option Knowledge) → Asks w (work_on_message m o)
unfolding heard_by
asks_told w m None = still refl refl
asks_told w m (Some k) = still refl refl

asks_joined : (w : World) (name : List ℕ) (launch : ℕ) (b : Bool) → Asks w (work_of_join w name launch b)
asks_joined w name launch true = still refl refl
asks_joined w name launch false = still refl refl

propose_is : (p q : Proposal) → commands.Propose p ≡ commands.Propose q → p ≡ q
propose_is p q e = cc

asks_delivered : (w : World) (m : Message) → WasSaid m w.sent → Asks w (work_of_delivery w m)
unfolding work_of_delivery
asks_delivered w (messages.Join name launch) s = asks_joined w name launch (launch == launch_of w.now name)
asks_delivered w (messages.Rows name launch rows) s = asks_told w (messages.Rows name launch rows) (restarter w name)
asks_delivered w (messages.Propose p) s =
    commands_ask w (commands.Propose p) (λ q e. subst (λ (x : Proposal). WasProposed x w.sent) (propose_is p q e) s)
asks_delivered w (messages.Ack name launch serial i row) s =
    asks_told w (messages.Ack name launch serial i row) (restarter w name)
asks_delivered w (messages.Nack name launch serial i why row) s =
    asks_told w (messages.Nack name launch serial i why row) (restarter w name)
asks_delivered w messages.AskView s = still refl refl
asks_delivered w (messages.AskChange since) s = still refl refl
asks_delivered w (messages.View v) s = still refl refl
asks_delivered w (messages.Changes news) s = still refl refl
asks_delivered w (messages.Order o) s = asks_told w (messages.Order o) (restarter w o.restarter)

-- each message is among all
each_itself : (ms : List Message) → Each (λ (m : Message). WasSaid m ms) ms
each_itself [] = tt
each_itself (m ∷ ms) = (
  inl refl,
  each_later (λ (x : Message). WasSaid x ms) (λ (x : Message). WasSaid x (m ∷ ms)) (λ x s. inr s) ms
      (each_itself ms),
)

pub sent_was_said : (w : World) (place : ℕ) (m : Message) → sent_at w place ≡ Some m → WasSaid m w.sent
sent_was_said w place m e = each_sent (λ (x : Message). WasSaid x w.sent) w.sent place m (each_itself w.sent) e

asks_sent : (w : World) (place : ℕ) → Asks w (delivered_if w (sent_at w place))
asks_sent w place = by (sent_at w place) refl
  where
    by : (o : Option Message) → sent_at w place ≡ o → Asks w (delivered_if w o)
    by None e = still refl refl
    by (Some m) e = asks_delivered w m (sent_was_said w place m e)

asks_acted : (w : World) (k : Knowledge) (n : ℕ) (spawn : SpawnAnswer) (r : Reply) → Asks w (work_of_turn w k n spawn r)
unfolding work_of_turn
asks_acted w k n spawn r = still refl refl

asks_own : (w : World) (o : Option Knowledge) → Asks w (own_ticked w o)
asks_own w None = still refl refl
asks_own w (Some k) = asks_acted w k 0 spawns.Made (own_tick k k.stage)

asks_ticked : (w : World) (n : ℕ) (spawn : SpawnAnswer) (o : Option Knowledge) → Asks w (ticked_for w n spawn o)
asks_ticked w n spawn None = still refl refl
asks_ticked w n spawn (Some k) = asks_acted w k n spawn (reply_to_tick k n)

asks_calling : (w : World) (call : ContractCall) → Asks w (work_of_call w.table call)
unfolding work_of_call
asks_calling w call = still refl refl

asks_reported_by : (w : World) (r : Report) (o : Option Knowledge) → Asks w (reported_by r o)
asks_reported_by w r None = still refl refl
asks_reported_by w r (Some k) = still refl refl

asks_reported : (w : World) (o : Option Report) → Asks w (reported_to w o)
asks_reported w None = still refl refl
asks_reported w (Some r) = asks_reported_by w r (holder w r.contract.holder)

asks_timed : (w : World) (n : ℕ) (o : Option Knowledge) → Asks w (work_of_timeout n o)
asks_timed w n None = still refl refl
asks_timed w n (Some k) = still refl refl

asks_crashed : (w : World) (o : Option Knowledge) → Asks w (work_of_crash w o)
unfolding work_of_call
asks_crashed w None = still refl refl
asks_crashed w (Some k) = still refl refl

no_proposal : (name : List ℕ) (p : Proposal) → commands.Launch name ≡ commands.Propose p → ⊥
no_proposal name p e = cc

no_edit : (x : Edit) (p : Proposal) → commands.Edit x ≡ commands.Propose p → ⊥
no_edit x p e = cc

no_boot : (p : Proposal) → commands.Boot ≡ commands.Propose p → ⊥
no_boot p e = cc

asks_launched : (w : World) (name : List ℕ) (b : Bool) → Asks w (launched_if w name b)
asks_launched w name true = still refl refl
asks_launched w name false = commands_ask w (commands.Launch name) (λ p e. absurd (no_proposal name p e))

asks_booted : (w : World) (k : Work) (rs : List CommandReply) → Asks w k → Asks w (booted_as k rs)
asks_booted w k [] a = a
asks_booted w k (replies.Done ∷ rs) a = a
asks_booted w k (r ∷ rs) a = a

pub asked_of : (w : World) (e : Event) → Asks w (work_of_event w e)
unfolding work_of_event
asked_of w (events.Deliver place) = asks_sent w place
asked_of w (events.Client edit) = commands_ask w (commands.Edit edit) (λ p e. absurd (no_edit edit p e))
asked_of w events.Ask = still refl refl
asked_of w events.Orders = still refl refl
asked_of w (events.OwnTick name) = asks_own w (restarter w name)
asked_of w (events.Tick name n spawn) = asks_ticked w n spawn (restarter w name)
asked_of w (events.Process process what) = asks_calling w (process_call process what)
asked_of w (events.Report contract number) = asks_reported w (report_at w.table contract number)
asked_of w (events.Timeout name n) = asks_timed w n (restarter w name)
asked_of w (events.Crash name) = asks_crashed w (restarter w name)
asked_of w (events.Launch name) = asks_launched w name (is_launched w name)
asked_of w events.Boot =
    asks_booted w (work_of_command w commands.Boot) (work_of_command w commands.Boot).reply
    (commands_ask w commands.Boot (λ p e. absurd (no_boot p e)))

-- ---- the value behind it

abbrev Value : World → List Item → List Change → List Command → Type 0
Value w t cs past =
    AreRows (record w.history { past = past ++ w.history.past }) (holdings_after_changes w.now cs) w.sent t

value_still : (w : World) (t : List Item) → AreRows w.history w.now w.sent t → Value w t [] []
unfolding holdings_after_changes
value_still w t r = r

value_made : (w : World) (t : List Item) (c : Command) → AreMade (outcome_of_command w.now c).changes
    → IsAskable w.sent c → AreRows w.history w.now w.sent t → Value w t (outcome_of_command w.now c).changes (c ∷ [])
unfolding next
value_made w t c m a r = rows_commanded w.history w.now w.sent t c m a r

value_commanded : (w : World) (t : List Item) (c : Command) → IsAskable w.sent c → AreRows w.history w.now w.sent t
    → Value w t (outcome_of_command w.now c).changes (accepted_command c (outcome_of_command w.now c).changes)
value_commanded w t c a r = by (outcome_of_command w.now c).changes refl
  where
    by : (cs : List Change) → (outcome_of_command w.now c).changes ≡ cs → Value w t cs (accepted_command c cs)
    by [] e = value_still w t r
    by (x ∷ xs) e =
        subst (λ (cs : List Change). Value w t cs (c ∷ [])) e (value_made w t c (subst AreMade (sym e) tt) a r)

pub value_walked : (w : World) (t : List Item) (cs : List Change) (past : List Command)
    → IsAskedOf w.now w.sent cs past → AreRows w.history w.now w.sent t
    → AreRows (record w.history { past = past ++ w.history.past }) (holdings_after_changes w.now cs) w.sent t
value_walked w t cs past (still e d) r =
    subst (λ (xs : List Change). Value w t xs past) (sym e)
    (subst (λ (xs : List Command). Value w t [] xs) (sym d) (value_still w t r))
value_walked w t cs past (asks c e d a) r =
    subst (λ (xs : List Change). Value w t xs past) (sym e)
    (subst (λ (xs : List Command). Value w t (outcome_of_command w.now c).changes xs) (sym d)
    (value_commanded w t c a r))

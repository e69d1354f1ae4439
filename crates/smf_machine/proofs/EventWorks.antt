-- The work of each event can be installed. Its changes are those that its command asks for. It has one command at most,
-- and one thing becomes of the restarters.
use Rattle.std.proofs.Common.{◌≡◌, ◌⊎◌, inl, inr, ℕ, ◌==◌, List, [], ◌∷◌, Bool, true, false, Option, Some, None, refl, subst, sym, ap}
use Rattle.smf_contract.specs.declared.call.ContractCall.{ContractCall}
use Rattle.smf_contract.specs.declared.contract.Report.{Report}
use Rattle.smf_contract.specs.Entries.{Contracts, report_of_event as report_at}
use Rattle.smf_model.proofs.LawNumbers.{asked_numbered}
use Rattle.smf_model.specs.declared.change.Change.{Change}
use Rattle.smf_model.specs.declared.command.Command.{Command}
use Rattle.smf_model.specs.declared.command.Command.TheVariants as commands
use Rattle.smf_model.specs.declared.command.CommandReply.{CommandReply}
use Rattle.smf_model.specs.declared.command.CommandReply.TheVariants as replies
use Rattle.smf_model.specs.Contents.{Holdings}
use Rattle.smf_model.specs.Laws.{IsNumbered}
use Rattle.smf_model.specs.Look.{holdings_after_changes, launch_of}
use Rattle.smf_model.specs.Next.{outcome_of_command, next}
use Rattle.smf_restarter.specs.declared.reply.Reply.{Reply}
use Rattle.smf_restarter.specs.Knowledge.{Knowledge}
use Rattle.smf_restarter.specs.Ticks.{own_tick, reply_to_tick}
use Rattle.smf_wire.specs.declared.message.Message.{Message}
use Rattle.smf_wire.specs.declared.message.Message.TheVariants as messages
use Rattle.smf_world.specs.declared.event.Event.{Event}
use Rattle.smf_world.specs.declared.event.Event.TheVariants as events
use Rattle.smf_world.specs.declared.event.SpawnAnswer.{SpawnAnswer}
use Rattle.smf_world.specs.declared.event.SpawnAnswer.TheVariants as spawns
use Rattle.smf_world.specs.declared.work.Work.{Work}
use Rattle.smf_world.specs.Worked.{accepted_command, work_of_turn, booted_as, work_of_call, work_of_command, work_of_crash, work_of_delivery, delivered_if, heard_by, holder, is_launched, work_of_join, launched_as, launched_if, own_ticked, process_call, reported_by, reported_to, restarter, sent_at, ticked_for, work_of_timeout, work_on_message, work_of_event}
use Rattle.smf_world.specs.World.{World}
use Rattle.smf_world.proofs.ItemsMade.{AreMade}
use Rattle.smf_world.proofs.RowLaunches.{revised}
use Rattle.smf_machine.specs.Done.{changes_in, changes_of}
use Rattle.smf_machine.specs.Install.{AreOf, CanInstall}
use Rattle.smf_machine.specs.Lists.{AllFresh, AtMostOne, NoTwins}

record IsOrderly (w : World) (k : Work) : Type 0 where
  asked : (k.changes ≡ []) ⊎ ((c : Command) × (k.changes ≡ (outcome_of_command w.now c).changes))
  command : AtMostOne k.command
  of_command : AreOf w.now k.command k.changes
  becomes : AtMostOne k.becomes
  fresh : AllFresh w.restarters k.becomes

one_accepted : (c : Command) (xs : List Change) → AtMostOne (accepted_command c xs)
one_accepted c [] = tt
one_accepted c (x ∷ xs) = tt

-- the changes that a command asks for are those of the command that is accepted
are_of : (h : Holdings) (c : Command) (xs : List Change) → xs ≡ (outcome_of_command h c).changes
    → AreOf h (accepted_command c xs) xs
unfolding next
are_of h c [] e = refl
are_of h c (x ∷ xs) e = (ap (holdings_after_changes h) e, revised h c (subst AreMade e tt))

by_command : (w : World) (c : Command) → IsOrderly w (work_of_command w c)
unfolding work_of_command
by_command w c =
    record {
      asked = inr (c, refl);
      command = one_accepted c (outcome_of_command w.now c).changes;
      of_command = are_of w.now c (outcome_of_command w.now c).changes refl;
      becomes = tt;
      fresh = tt;
    }

by_told : (w : World) (m : Message) (k : Option Knowledge) → IsOrderly w (work_on_message m k)
unfolding heard_by
by_told w m None = record { asked = inl refl; command = tt; of_command = refl; becomes = tt; fresh = tt }
by_told w m (Some k) = record { asked = inl refl; command = tt; of_command = refl; becomes = tt; fresh = (tt, tt) }

by_joined : (w : World) (name : List ℕ) (launch : ℕ) (last : Bool) → IsOrderly w (work_of_join w name launch last)
by_joined w name launch true = record { asked = inl refl; command = tt; of_command = refl; becomes = tt; fresh = tt }
by_joined w name launch false = record { asked = inl refl; command = tt; of_command = refl; becomes = tt; fresh = tt }

by_delivered : (w : World) (m : Message) → IsOrderly w (work_of_delivery w m)
unfolding work_of_delivery
by_delivered w (messages.Join name launch) = by_joined w name launch (launch == launch_of w.now name)
by_delivered w (messages.Rows name launch rows) = by_told w (messages.Rows name launch rows) (restarter w name)
by_delivered w (messages.Propose p) = let k = by_command w (commands.Propose p) in
    record { asked = k.asked; command = k.command; of_command = k.of_command; becomes = k.becomes; fresh = k.fresh }
by_delivered w (messages.Ack name launch serial i row) =
    by_told w (messages.Ack name launch serial i row) (restarter w name)
by_delivered w (messages.Nack name launch serial i why row) =
    by_told w (messages.Nack name launch serial i why row) (restarter w name)
by_delivered w messages.AskView = record { asked = inl refl; command = tt; of_command = refl; becomes = tt; fresh = tt }
by_delivered w (messages.AskChange from) =
    record { asked = inl refl; command = tt; of_command = refl; becomes = tt; fresh = tt }
by_delivered w (messages.Changes c) =
    record { asked = inl refl; command = tt; of_command = refl; becomes = tt; fresh = tt }
by_delivered w (messages.View v) =
    record { asked = inl refl; command = tt; of_command = refl; becomes = tt; fresh = tt }
by_delivered w (messages.Order o) = by_told w (messages.Order o) (restarter w o.restarter)

by_delivered_if : (w : World) (m : Option Message) → IsOrderly w (delivered_if w m)
by_delivered_if w None = record { asked = inl refl; command = tt; of_command = refl; becomes = tt; fresh = tt }
by_delivered_if w (Some m) = by_delivered w m

by_acted : (w : World) (k : Knowledge) (n : ℕ) (spawn : SpawnAnswer) (r : Reply)
    → IsOrderly w (work_of_turn w k n spawn r)
unfolding work_of_turn
by_acted w k n spawn r = record { asked = inl refl; command = tt; of_command = refl; becomes = tt; fresh = (tt, tt) }

by_own_tick : (w : World) (k : Option Knowledge) → IsOrderly w (own_ticked w k)
by_own_tick w None = record { asked = inl refl; command = tt; of_command = refl; becomes = tt; fresh = tt }
by_own_tick w (Some k) = by_acted w k 0 spawns.Made (own_tick k k.stage)

by_tick : (w : World) (n : ℕ) (spawn : SpawnAnswer) (k : Option Knowledge) → IsOrderly w (ticked_for w n spawn k)
by_tick w n spawn None = record { asked = inl refl; command = tt; of_command = refl; becomes = tt; fresh = tt }
by_tick w n spawn (Some k) = by_acted w k n spawn (reply_to_tick k n)

by_calling : (w : World) (t : Contracts) (call : ContractCall) → IsOrderly w (work_of_call t call)
unfolding work_of_call
by_calling w t call = record { asked = inl refl; command = tt; of_command = refl; becomes = tt; fresh = tt }

by_report : (w : World) (r : Report) (k : Option Knowledge) → IsOrderly w (reported_by r k)
by_report w r None = record { asked = inl refl; command = tt; of_command = refl; becomes = tt; fresh = tt }
by_report w r (Some k) = record { asked = inl refl; command = tt; of_command = refl; becomes = tt; fresh = (tt, tt) }

by_reported : (w : World) (r : Option Report) → IsOrderly w (reported_to w r)
by_reported w None = record { asked = inl refl; command = tt; of_command = refl; becomes = tt; fresh = tt }
by_reported w (Some r) = by_report w r (holder w r.contract.holder)

by_timeout : (w : World) (n : ℕ) (k : Option Knowledge) → IsOrderly w (work_of_timeout n k)
by_timeout w n None = record { asked = inl refl; command = tt; of_command = refl; becomes = tt; fresh = tt }
by_timeout w n (Some k) = record { asked = inl refl; command = tt; of_command = refl; becomes = tt; fresh = (tt, tt) }

by_crash : (w : World) (k : Option Knowledge) → IsOrderly w (work_of_crash w k)
unfolding work_of_call
by_crash w None = record { asked = inl refl; command = tt; of_command = refl; becomes = tt; fresh = tt }
by_crash w (Some k) = record { asked = inl refl; command = tt; of_command = refl; becomes = tt; fresh = (tt, tt) }

one_launched : (w : World) (name : List ℕ) (rs : List CommandReply) → AtMostOne (launched_as w name rs)
one_launched w name [] = tt
one_launched w name (replies.Made launch ∷ rs) = tt
one_launched w name (replies.Granted row ∷ rs) = tt
one_launched w name (replies.Done ∷ rs) = tt
one_launched w name (replies.NoSuch ∷ rs) = tt
one_launched w name (replies.InUse ∷ rs) = tt
one_launched w name (replies.NotInState ∷ rs) = tt
one_launched w name (replies.Exists ∷ rs) = tt
one_launched w name (replies.Denied fault ∷ rs) = tt
one_launched w name (replies.Limit ∷ rs) = tt
one_launched w name (replies.Stale why row ∷ rs) = tt

fresh_launched : (w : World) (name : List ℕ) (rs : List CommandReply) → is_launched w name ≡ false
    → AllFresh w.restarters (launched_as w name rs)
fresh_launched w name [] e = tt
fresh_launched w name (replies.Made launch ∷ rs) e = (e, tt)
fresh_launched w name (replies.Granted row ∷ rs) e = tt
fresh_launched w name (replies.Done ∷ rs) e = tt
fresh_launched w name (replies.NoSuch ∷ rs) e = tt
fresh_launched w name (replies.InUse ∷ rs) e = tt
fresh_launched w name (replies.NotInState ∷ rs) e = tt
fresh_launched w name (replies.Exists ∷ rs) e = tt
fresh_launched w name (replies.Denied fault ∷ rs) e = tt
fresh_launched w name (replies.Limit ∷ rs) e = tt
fresh_launched w name (replies.Stale why row ∷ rs) e = tt

by_launch : (w : World) (name : List ℕ) (b : Bool) → is_launched w name ≡ b → IsOrderly w (launched_if w name b)
by_launch w name true e = record { asked = inl refl; command = tt; of_command = refl; becomes = tt; fresh = tt }
by_launch w name false e =
    let k = by_command w (commands.Launch name) in
    let rs = (work_of_command w (commands.Launch name)).reply in
    record {
      asked = k.asked;
      command = k.command;
      of_command = k.of_command;
      becomes = one_launched w name rs;
      fresh = fresh_launched w name rs e;
    }

by_boot : (w : World) (k : Work) (rs : List CommandReply) → IsOrderly w k → IsOrderly w (booted_as k rs)
by_boot w k [] o = o
by_boot w k (replies.Made launch ∷ rs) o = o
by_boot w k (replies.Granted row ∷ rs) o = o
by_boot w k (replies.Done ∷ rs) o =
    record { asked = o.asked; command = o.command; of_command = o.of_command; becomes = tt; fresh = (tt, tt) }
by_boot w k (replies.NoSuch ∷ rs) o = o
by_boot w k (replies.InUse ∷ rs) o = o
by_boot w k (replies.NotInState ∷ rs) o = o
by_boot w k (replies.Exists ∷ rs) o = o
by_boot w k (replies.Denied fault ∷ rs) o = o
by_boot w k (replies.Limit ∷ rs) o = o
by_boot w k (replies.Stale why row ∷ rs) o = o

orderly : (w : World) (e : Event) → IsOrderly w (work_of_event w e)
unfolding work_of_event
orderly w (events.Deliver place) = by_delivered_if w (sent_at w place)
orderly w (events.Client edit) = by_command w (commands.Edit edit)
orderly w events.Ask = record { asked = inl refl; command = tt; of_command = refl; becomes = tt; fresh = tt }
orderly w events.Orders = record { asked = inl refl; command = tt; of_command = refl; becomes = tt; fresh = tt }
orderly w (events.OwnTick name) = by_own_tick w (restarter w name)
orderly w (events.Tick name n spawn) = by_tick w n spawn (restarter w name)
orderly w (events.Process process what) = by_calling w w.table (process_call process what)
orderly w (events.Report contract number) = by_reported w (report_at w.table contract number)
orderly w (events.Timeout name n) = by_timeout w n (restarter w name)
orderly w (events.Crash name) = by_crash w (restarter w name)
orderly w (events.Launch name) = by_launch w name (is_launched w name) refl
orderly w events.Boot =
    by_boot w (work_of_command w commands.Boot) (work_of_command w commands.Boot).reply (by_command w commands.Boot)

-- ---- what it makes

numbered_by : (h : Holdings) (xs : List Change) → IsNumbered h
    → (xs ≡ []) ⊎ ((c : Command) × (xs ≡ (outcome_of_command h c).changes)) → IsNumbered (holdings_after_changes h xs)
unfolding holdings_after_changes
numbered_by h xs n (inl none) = subst (λ ys. IsNumbered (holdings_after_changes h ys)) (sym none) n
numbered_by h xs n (inr by) =
    subst (λ ys. IsNumbered (holdings_after_changes h ys)) (sym by.1) (asked_numbered h by.0 n)

pub numbered_worked : (w : World) (e : Event) → IsNumbered w.now
    → IsNumbered (holdings_after_changes w.now (work_of_event w e).changes)
numbered_worked w e n = numbered_by w.now (work_of_event w e).changes n (orderly w e).asked

pub fresh_worked : (w : World) (e : Event) → AllFresh w.restarters (work_of_event w e).becomes
fresh_worked w e = (orderly w e).fresh

-- ---- the graph's view is patched by changes alone

by_told_patches : (m : Message) (k : Option Knowledge) → (work_on_message m k).patches ≡ []
unfolding heard_by
by_told_patches m None = refl
by_told_patches m (Some k) = refl

by_joined_patches : (w : World) (name : List ℕ) (launch : ℕ) (b : Bool) → (work_of_join w name launch b).patches ≡ []
by_joined_patches w name launch true = refl
by_joined_patches w name launch false = refl

delivered_patches : (w : World) (m : Message) → changes_in (Some m) ≡ None → (work_of_delivery w m).patches ≡ []
unfolding work_of_delivery work_of_command
delivered_patches w (messages.Join name launch) e = by_joined_patches w name launch (launch == launch_of w.now name)
delivered_patches w (messages.Rows name launch rows) e =
    by_told_patches (messages.Rows name launch rows) (restarter w name)
delivered_patches w (messages.Propose p) e = refl
delivered_patches w (messages.Ack name launch serial i row) e =
    by_told_patches (messages.Ack name launch serial i row) (restarter w name)
delivered_patches w (messages.Nack name launch serial i why row) e =
    by_told_patches (messages.Nack name launch serial i why row) (restarter w name)
delivered_patches w messages.AskView e = refl
delivered_patches w (messages.View v) e = refl
delivered_patches w (messages.AskChange from) e = refl
delivered_patches w (messages.Changes c) e = absurd cc
delivered_patches w (messages.Order o) e = by_told_patches (messages.Order o) (restarter w o.restarter)

sent_patches : (w : World) (o : Option Message) → changes_in o ≡ None → (delivered_if w o).patches ≡ []
sent_patches w None e = refl
sent_patches w (Some m) e = delivered_patches w m e

tick_patches : (w : World) (n : ℕ) (spawn : SpawnAnswer) (k : Option Knowledge) → (ticked_for w n spawn k).patches ≡ []
unfolding work_of_turn
tick_patches w n spawn None = refl
tick_patches w n spawn (Some k) = refl

own_patches : (w : World) (k : Option Knowledge) → (own_ticked w k).patches ≡ []
unfolding work_of_turn
own_patches w None = refl
own_patches w (Some k) = refl

report_patches : (r : Report) (k : Option Knowledge) → (reported_by r k).patches ≡ []
report_patches r None = refl
report_patches r (Some k) = refl

reported_patches : (w : World) (r : Option Report) → (reported_to w r).patches ≡ []
reported_patches w None = refl
reported_patches w (Some r) = report_patches r (holder w r.contract.holder)

timed_patches : (n : ℕ) (k : Option Knowledge) → (work_of_timeout n k).patches ≡ []
timed_patches n None = refl
timed_patches n (Some k) = refl

crash_patches : (w : World) (k : Option Knowledge) → (work_of_crash w k).patches ≡ []
unfolding work_of_call
crash_patches w None = refl
crash_patches w (Some k) = refl

launch_patches : (w : World) (name : List ℕ) (b : Bool) → (launched_if w name b).patches ≡ []
unfolding work_of_command
launch_patches w name true = refl
launch_patches w name false = refl

boot_patches : (k : Work) (rs : List CommandReply) → k.patches ≡ [] → (booted_as k rs).patches ≡ []
boot_patches k [] e = e
boot_patches k (replies.Done ∷ rs) e = e
boot_patches k (replies.Made launch ∷ rs) e = e
boot_patches k (replies.Granted row ∷ rs) e = e
boot_patches k (replies.NoSuch ∷ rs) e = e
boot_patches k (replies.InUse ∷ rs) e = e
boot_patches k (replies.NotInState ∷ rs) e = e
boot_patches k (replies.Exists ∷ rs) e = e
boot_patches k (replies.Denied fault ∷ rs) e = e
boot_patches k (replies.Limit ∷ rs) e = e
boot_patches k (replies.Stale why row ∷ rs) e = e

no_patches : (w : World) (e : Event) → changes_of w e ≡ None → (work_of_event w e).patches ≡ []
unfolding work_of_event work_of_command work_of_call
no_patches w (events.Deliver place) none = sent_patches w (sent_at w place) none
no_patches w (events.Client edit) none = refl
no_patches w events.Ask none = refl
no_patches w events.Orders none = refl
no_patches w (events.OwnTick name) none = own_patches w (restarter w name)
no_patches w (events.Tick name n spawn) none = tick_patches w n spawn (restarter w name)
no_patches w (events.Process process what) none = refl
no_patches w (events.Report contract number) none = reported_patches w (report_at w.table contract number)
no_patches w (events.Timeout name n) none = timed_patches n (restarter w name)
no_patches w (events.Crash name) none = crash_patches w (restarter w name)
no_patches w (events.Launch name) none = launch_patches w name (is_launched w name)
no_patches w events.Boot none =
    boot_patches (work_of_command w commands.Boot) (work_of_command w commands.Boot).reply refl

pub one_becomes : (w : World) (e : Event) → AtMostOne (work_of_event w e).becomes
one_becomes w e = (orderly w e).becomes

pub can_install : (w : World) (e : Event) → IsNumbered w.now → NoTwins w.restarters → changes_of w e ≡ None
    → CanInstall w.now w.restarters (work_of_event w e)
can_install w e n apart none =
    let o = orderly w e in
    record {
      numbered = numbered_worked w e n;
      apart = apart;
      command = o.command;
      of_command = o.of_command;
      becomes = o.becomes;
      patches = no_patches w e none;
    }

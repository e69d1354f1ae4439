-- Each event keeps the knowledge of runs of launched restarters. That knowledge is true, and a restarter that is up
-- knows each start that lives of the instances that it runs.
use Rattle.std.proofs.Common.{◌≡◌, ◌⊎◌, inl, inr, ◌==◌, ◌+◌, not, ℕ, Bool, true, false, List, [], ◌∷◌, ◌++◌, map, Option, Some, None, refl, sym, ap, ◌∙◌, subst}
use Rattle.std.specs.Prelude.{IsSome}
use Rattle.smf_contract.specs.declared.call.ContractCall.{ContractCall}
use Rattle.smf_contract.specs.declared.contract.Holder.{Holder}
use Rattle.smf_contract.specs.declared.contract.Holder.TheVariants.{Held as HeldBy, Inherited, Abandoned}
use Rattle.smf_contract.specs.declared.contract.Report.{Report}
use Rattle.smf_contract.specs.Called.{emptied_by}
use Rattle.smf_contract.specs.Entries.{report_of_event as report_at}
use Rattle.smf_state.specs.declared.step.Proposal.{Proposal}
use Rattle.smf_model.specs.declared.change.Change.{Change}
use Rattle.smf_model.specs.declared.command.Command.{Command}
use Rattle.smf_model.specs.declared.command.Command.TheVariants as commands
use Rattle.smf_model.specs.declared.command.Edit.{Edit}
use Rattle.smf_model.specs.declared.command.CommandReply.{CommandReply}
use Rattle.smf_model.specs.declared.command.CommandReply.TheVariants as replies
use Rattle.smf_model.specs.declared.held.Instance.{Instance}
use Rattle.smf_model.specs.Contents.{Holdings}
use Rattle.smf_model.specs.Look.{holdings_after_changes, instance, launch_of}
use Rattle.smf_model.specs.Next.{outcome_of_command, next}
use Rattle.smf_wire.specs.declared.message.Known.{Known}
use Rattle.smf_wire.specs.declared.message.Message.{Message}
use Rattle.smf_wire.specs.declared.message.Message.TheVariants as messages
use Rattle.smf_restarter.specs.declared.known.Stage.TheVariants.{Up}
use Rattle.smf_restarter.specs.declared.reply.Answer.{Answer}
use Rattle.smf_restarter.specs.declared.reply.KnowledgeChange.{KnowledgeChange}
use Rattle.smf_restarter.specs.declared.reply.Reply.{Reply}
use Rattle.smf_restarter.specs.Answers.{change_on_report, timed_out}
use Rattle.smf_restarter.specs.Changes.{knowledge_after}
use Rattle.smf_restarter.specs.Knowledge.{Knowledge, at_first}
use Rattle.smf_restarter.specs.Replies.{reply_to_message}
use Rattle.smf_restarter.specs.Runs.{run_at}
use Rattle.smf_restarter.specs.Ticks.{own_tick, reply_to_tick}
use Rattle.smf_world.specs.declared.event.Event.{Event}
use Rattle.smf_world.specs.declared.event.Event.TheVariants as events
use Rattle.smf_world.specs.declared.event.SpawnAnswer.{SpawnAnswer}
use Rattle.smf_world.specs.declared.event.SpawnAnswer.TheVariants as spawning
use Rattle.smf_world.specs.declared.item.Item.{Item}
use Rattle.smf_world.specs.declared.item.Item.TheVariants.{Emptied}
use Rattle.smf_world.specs.declared.work.Becomes.{Becomes}
use Rattle.smf_world.specs.declared.work.Becomes.TheVariants as becomes
use Rattle.smf_world.specs.declared.work.Work.{Work}
use Rattle.smf_world.specs.Happens.{all_becoming, world_after, happens}
use Rattle.smf_world.specs.Items.{items_of}
use Rattle.smf_world.specs.Worked.{work_of_turn, answer_of, begun_in, begun_items, booted_as, call_of, work_of_call, change_after, work_of_command, work_of_crash, work_of_delivery, delivered_if, emptied_items, heard_by, held_items, holder, is_actor, is_launched, is_named, work_of_join, knows, launched_as, launched_if, own_ticked, process_call, reported_by, reported_to, restarter, sent_at, ticked_for, work_of_timeout, work_on_message, work_of_event}
use Rattle.smf_world.specs.World.{World, initial_world}
use Rattle.smf_world.proofs.ItemsMade.{AreMade}
use Rattle.smf_safety.proofs.KnowApart.{IsApartFrom, all_know, changed_name, found_in, restarter_found}
use Rattle.smf_safety.proofs.KnowEvents.{AreInformedOf, command_begins_none}
use Rattle.smf_safety.proofs.KnowStarts.{Stands, first_restarters, has_orders, owed_fresh}
use Rattle.smf_safety.proofs.KnowWalked.{IsKnowing, answers, begins, boots, edits, idles, is_edit, knowing, leaves, steps}
use Rattle.smf_safety.proofs.LiveClauses.{KnowsLive, LiveInRows, Lives, Once}
use Rattle.smf_world.proofs.LiveEach.{each_both, each_filter, each_in, each_later}
use Rattle.smf_safety.proofs.LiveEvents.{goes_on}
use Rattle.smf_safety.proofs.LiveHeard.{heard_notes, reported_stage, timed_notes}
use Rattle.smf_safety.proofs.LiveKnown.{GoesOn, RunsAreTrue, knows_changed, reported_true, true_later}
use Rattle.smf_world.proofs.LiveLists.{Each, IsIn}
use Rattle.smf_safety.proofs.LiveRows.{knows_commanded}
use Rattle.smf_safety.proofs.LiveTicked.{TurnsOn, enlists, own_turns, starts, tells, ticked_turns}
use Rattle.smf_safety.proofs.LiveTrue.{AddsNone, Brings, IsTurn, KnowsWell, begun_alone, brings_begun, brings_listed, brings_noted, brings_true, none_lives, turn_none}
use Rattle.smf_world.proofs.TrailItems.{noted}
use Rattle.smf_safety.proofs.RowMade.{moves}
use Rattle.smf_safety.proofs.RowWorld.{NoneBegun}
use Rattle.smf_safety.proofs.SaidEvents.{AreRowsOf}
use Rattle.smf_safety.proofs.TablesClauses.{IsTable}

-- ---- what an event brings a restarter

abbrev NoneKnows : List Becomes → Type 0
NoneKnows [] = Unit {0}
NoneKnows (becomes.Knows name c ∷ bs) = ⊥
NoneKnows (becomes.Launched name actor launch ∷ bs) = Unit {0}
NoneKnows (becomes.Gone name ∷ bs) = Unit {0}
NoneKnows (becomes.NoneLeft ∷ bs) = Unit {0}

-- one restarter knows more, or none does
pub data Hears (w : World) (k : Work) : Type 0 where
  hears : (l : Knowledge) (c : KnowledgeChange) → IsIn l w.restarters → k.becomes ≡ knows l c → Brings w l c k.items
      → Hears w k
  silent : NoneKnows k.becomes → Hears w k

-- the clauses on a world whose restarters hear, turn and are told
pub record CanHear (w : World) : Type 0 where
  pub table : IsTable w.table w.trail
  pub once : Once w.trail
  pub informed : AreInformedOf w
  pub runs : Each (RunsAreTrue w.trail) w.restarters

true_in : (w : World) (l : Knowledge) → CanHear w → IsIn l w.restarters → RunsAreTrue w.trail l
true_in w l h there = each_in (RunsAreTrue w.trail) l w.restarters h.runs there

held_none : (k : Knowledge) (xs : List Known) → NoneBegun (held_items k xs)
held_none k [] = tt
held_none k (x ∷ xs) = held_none k xs

each_emptied : (cs : List ℕ) → NoneBegun (map (λ (c : ℕ). Emptied c) cs)
each_emptied [] = tt
each_emptied (c ∷ cs) = each_emptied cs

-- ---- messages

told_hears : (w : World) (m : Message) (name : List ℕ) → CanHear w → Hears w (work_on_message m (restarter w name))
unfolding heard_by
told_hears w m name h = by (restarter w name) refl
  where
    by : (o : Option Knowledge) → restarter w name ≡ o → Hears w (work_on_message m o)
    by None e = silent tt
    by (Some l) e =
        let there : IsIn l w.restarters = (restarter_found name w.restarters l e).0 in
        hears l (reply_to_message l m).change there refl
        (brings_noted w l (reply_to_message l m).change (held_items l (reply_to_message l m).taken)
        (true_in w l h there) (heard_notes w.trail l m (true_in w l h there))
        (none_lives (held_items l (reply_to_message l m).taken) (held_none l (reply_to_message l m).taken)))

joined_hears : (w : World) (name : List ℕ) (launch : ℕ) (b : Bool) → Hears w (work_of_join w name launch b)
joined_hears w name launch true = silent tt
joined_hears w name launch false = silent tt

proposed_hears : (w : World) (p : Proposal) → Hears w (work_of_delivery w (messages.Propose p))
unfolding work_of_delivery work_of_command
proposed_hears w p = silent tt

delivered_hears : (w : World) (m : Message) → CanHear w → Hears w (work_of_delivery w m)
unfolding work_of_delivery
delivered_hears w (messages.Join name launch) h = joined_hears w name launch (launch == launch_of w.now name)
delivered_hears w (messages.Rows name launch rows) h = told_hears w (messages.Rows name launch rows) name h
delivered_hears w (messages.Propose p) h = proposed_hears w p
delivered_hears w (messages.Ack name launch serial i row) h =
    told_hears w (messages.Ack name launch serial i row) name h
delivered_hears w (messages.Nack name launch serial i why row) h =
    told_hears w (messages.Nack name launch serial i why row) name h
delivered_hears w messages.AskView h = silent tt
delivered_hears w (messages.AskChange since) h = silent tt
delivered_hears w (messages.View v) h = silent tt
delivered_hears w (messages.Changes news) h = silent tt
delivered_hears w (messages.Order o) h = told_hears w (messages.Order o) o.restarter h

sent_hears : (w : World) (o : Option Message) → CanHear w → Hears w (delivered_if w o)
sent_hears w None h = silent tt
sent_hears w (Some m) h = delivered_hears w m h

-- ---- turns

acted_hears : (w : World) (l : Knowledge) (n : ℕ) (spawn : SpawnAnswer) (r : Reply) → CanHear w → IsIn l w.restarters
    → TurnsOn w l n spawn r → Hears w (work_of_turn w l n spawn r)
unfolding work_of_turn
acted_hears w l n spawn r h there turns = hears l c there refl (by turns)
  where
    a : Answer
    a = answer_of w.table l.actor spawn r.call

    c : KnowledgeChange
    c = change_after w l n r r.call a

    call : ContractCall
    call = call_of l.actor r.call a

    rows : List Item
    rows = held_items l r.taken

    begun : List Item
    begun = begun_items (begun_in r.call a) r.begun

    emptied : List Item
    emptied = emptied_items w.table call

    turn : (xs : List Item) → begun ≡ xs → IsTurn rows xs emptied (rows ++ begun ++ emptied)
    turn xs e = record {
      rows_none = held_none l r.taken;
      emptied_none = each_emptied (emptied_by w.table call);
      are = ap (λ (ys : List Item). rows ++ ys ++ emptied) e;
    }

    by : TurnsOn w l n spawn r → Brings w l c (rows ++ begun ++ emptied)
    by (tells is none) =
        brings_noted w l c (rows ++ begun ++ emptied) (true_in w l h there) is
        (turn_none rows begun emptied (rows ++ begun ++ emptied) (turn begun refl) none)
    by (enlists lists quiet none) =
        brings_listed w l c (rows ++ begun ++ emptied) h.table h.once (true_in w l h there) lists quiet
        (turn_none rows begun emptied (rows ++ begun ++ emptied) (turn begun refl) none)
    by (starts i o contract at ph up lists notes is) =
        brings_begun w l c rows emptied (rows ++ begun ++ emptied) i o contract (true_in w l h there)
        (each_in _ l w.restarters h.informed.informed there) at ph up lists notes
        (turn (begun_alone contract i o) is)

own_hears : (w : World) (name : List ℕ) → CanHear w → Hears w (own_ticked w (restarter w name))
own_hears w name h = by (restarter w name) refl
  where
    by : (o : Option Knowledge) → restarter w name ≡ o → Hears w (own_ticked w o)
    by None e = silent tt
    by (Some l) e =
        acted_hears w l 0 spawning.Made (own_tick l l.stage) h (restarter_found name w.restarters l e).0
        (own_turns w l l.stage refl)

ticked_hears : (w : World) (name : List ℕ) (n : ℕ) (spawn : SpawnAnswer) → CanHear w
    → Hears w (ticked_for w n spawn (restarter w name))
ticked_hears w name n spawn h = by (restarter w name) refl
  where
    by : (o : Option Knowledge) → restarter w name ≡ o → Hears w (ticked_for w n spawn o)
    by None e = silent tt
    by (Some l) e =
        let there : IsIn l w.restarters = (restarter_found name w.restarters l e).0 in
        acted_hears w l n spawn (reply_to_tick l n) h there (ticked_turns w l n spawn (true_in w l h there))

-- ---- reports, time-outs

reporting_hears : (w : World) (contract number : ℕ) (r : Report) (o : Option Knowledge)
    → report_at w.table contract number ≡ Some r → CanHear w → ((l : Knowledge) → o ≡ Some l → IsIn l w.restarters)
    → Hears w (reported_by r o)
reporting_hears w contract number r None e h there = silent tt
reporting_hears w contract number r (Some l) e h there =
    hears l (change_on_report l r) (there l refl) refl
    (brings_true w l (change_on_report l r) [] (reported_stage l r)
    (λ g. reported_true w.table w.trail l contract number r e (true_in w l h (there l refl)) h.table h.once)
    (λ t n run x. x))

holder_in : (w : World) (x : Holder) (l : Knowledge) → holder w x ≡ Some l → IsIn l w.restarters
holder_in w (HeldBy actor) l e = (found_in (is_actor actor) w.restarters l e).0
holder_in w Inherited l e = absurd (let f : None ≡ Some l = e in cc)
holder_in w Abandoned l e = absurd (let f : None ≡ Some l = e in cc)

reported_hears : (w : World) (contract number : ℕ) → CanHear w
    → Hears w (reported_to w (report_at w.table contract number))
reported_hears w contract number h = by (report_at w.table contract number) refl
  where
    by : (o : Option Report) → report_at w.table contract number ≡ o → Hears w (reported_to w o)
    by None e = silent tt
    by (Some r) e =
        reporting_hears w contract number r (holder w r.contract.holder) e h (λ l f. holder_in w r.contract.holder l f)

timed_hears : (w : World) (name : List ℕ) (n : ℕ) → CanHear w → Hears w (work_of_timeout n (restarter w name))
timed_hears w name n h = by (restarter w name) refl
  where
    by : (o : Option Knowledge) → restarter w name ≡ o → Hears w (work_of_timeout n o)
    by None e = silent tt
    by (Some l) e =
        let there : IsIn l w.restarters = (restarter_found name w.restarters l e).0 in
        hears l (timed_out l n) there refl
        (brings_noted w l (timed_out l n) [] (true_in w l h there) (timed_notes w.trail l n) (λ t m run x. x))

-- ---- what tells nobody anything

calling_silent : (w : World) (call : ContractCall) → Hears w (work_of_call w.table call)
unfolding work_of_call
calling_silent w call = silent tt

crashed_silent : (w : World) (o : Option Knowledge) → Hears w (work_of_crash w o)
unfolding work_of_call
crashed_silent w None = silent tt
crashed_silent w (Some l) = silent tt

edit_silent : (w : World) (e : Edit) → Hears w (work_of_command w (commands.Edit e))
unfolding work_of_command
edit_silent w e = silent tt

launched_none : (w : World) (name : List ℕ) (rs : List CommandReply) → NoneKnows (launched_as w name rs)
launched_none w name [] = tt
launched_none w name (replies.Made launch ∷ rs) = tt
launched_none w name (x ∷ rs) = tt

launched_silent : (w : World) (name : List ℕ) (b : Bool) → Hears w (launched_if w name b)
unfolding work_of_command
launched_silent w name true = silent tt
launched_silent w name false =
    silent (launched_none w name ((outcome_of_command w.now (commands.Launch name)).reply ∷ []))

booted_none : (k : Work) (rs : List CommandReply) → NoneKnows k.becomes → NoneKnows (booted_as k rs).becomes
booted_none k [] a = a
booted_none k (replies.Done ∷ rs) a = tt
booted_none k (x ∷ rs) a = a

booted_silent : (w : World)
    → Hears w (booted_as (work_of_command w commands.Boot) (work_of_command w commands.Boot).reply)
unfolding work_of_command
booted_silent w = silent (booted_none (work_of_command w commands.Boot) (work_of_command w commands.Boot).reply tt)

pub hears_event : (w : World) (e : Event) → CanHear w → Hears w (work_of_event w e)
unfolding work_of_event
hears_event w (events.Deliver place) h = sent_hears w (sent_at w place) h
hears_event w (events.Client edit) h = edit_silent w edit
hears_event w events.Ask h = silent tt
hears_event w events.Orders h = silent tt
hears_event w (events.OwnTick name) h = own_hears w name h
hears_event w (events.Tick name n spawn) h = ticked_hears w name n spawn h
hears_event w (events.Process process what) h = calling_silent w (process_call process what)
hears_event w (events.Report contract number) h = reported_hears w contract number h
hears_event w (events.Timeout name n) h = timed_hears w name n h
hears_event w (events.Crash name) h = crashed_silent w (restarter w name)
hears_event w (events.Launch name) h = launched_silent w name (is_launched w name)
hears_event w events.Boot h = booted_silent w

-- ---- what all of them know behind work with these parts

abbrev Behind : World → List Change → List Item → List Becomes → Type 0
Behind w cs items bs =
    Each (KnowsWell (holdings_after_changes w.now cs) (noted items w.trail)) (all_becoming bs w.restarters)

abbrev AllKnow : World → Type 0
AllKnow w = Each (KnowsWell w.now w.trail) w.restarters

parts_are : (w : World) (cs ds : List Change) (items : List Item) (bs es : List Becomes) → cs ≡ ds → bs ≡ es
    → Behind w ds items es → Behind w cs items bs
parts_are w cs ds items bs es a b x =
    subst (λ (z : List Change). Behind w z items bs) (sym a)
    (subst (λ (z : List Becomes). Behind w ds items z) (sym b) x)

-- one of them knows more
here_knows : (w : World) (l : Knowledge) (c : KnowledgeChange) (items : List Item) → Brings w l c items
    → GoesOn w.trail (noted items w.trail) → KnowsWell w.now w.trail l
    → KnowsWell w.now (noted items w.trail) (knowledge_after l c)
here_knows w l c items b g p = (
  b.trues g,
  λ up n run i there mine lives. by n run i there (mine ∙ changed_name l c) (b.own up n run lives),
)
  where
    by : (n run : ℕ) (i : Instance) → instance w.now n ≡ Some i → i.row.owner ≡ l.name
        → (Lives n run w.trail × (l.stage ≡ Up)) ⊎ IsSome (run_at (knowledge_after l c) n run)
        → IsSome (run_at (knowledge_after l c) n run)
    by n run i there mine (inl x) = knows_changed l c n run (p.1 x.1 n run i there mine x.0)
    by n run i there mine (inr s) = s

other_knows : (w : World) (l m : Knowledge) (c : KnowledgeChange) (items : List Item) → IsApartFrom l m
    → Brings w l c items → GoesOn w.trail (noted items w.trail) → KnowsWell w.now w.trail m
    → KnowsWell w.now (noted items w.trail) m
other_knows w l m c items away b g p = (
  true_later w.trail (noted items w.trail) m g p.0,
  λ up n run i there mine lives. by up n run i there mine (b.others n run lives),
)
  where
    by : m.stage ≡ Up → (n run : ℕ) (i : Instance) → instance w.now n ≡ Some i → i.row.owner ≡ m.name
        → Lives n run w.trail ⊎ ((j : Instance) → instance w.now n ≡ Some j → j.row.owner ≡ l.name)
        → IsSome (run_at m n run)
    by up n run i there mine (inl x) = p.1 up n run i there mine x
    by up n run i there mine (inr own) = absurd (away (sym (own i there) ∙ mine))

step_behind : (w : World) (l : Knowledge) (c : KnowledgeChange) (items : List Item) → AreInformedOf w
    → IsIn l w.restarters → Brings w l c items → GoesOn w.trail (noted items w.trail) → AllKnow w
    → Behind w [] items (knows l c)
unfolding holdings_after_changes
step_behind w l c items f there b g a =
    all_know (KnowsWell w.now w.trail) (KnowsWell w.now (noted items w.trail)) l c w.restarters f.apart there
    (here_knows w l c items b g) (λ m away p. other_knows w l m c items away b g p) a

-- none of them does
still_knows : (h : Holdings) (t items : List Item) (k : Knowledge) → AddsNone items → GoesOn t (noted items t)
    → KnowsWell h t k → KnowsWell h (noted items t) k
still_knows h t items k none g p = (
  true_later t (noted items t) k g p.0,
  λ up n run i there mine lives. p.1 up n run i there mine (none t n run lives),
)

idle_behind : (w : World) (items : List Item) → AddsNone items → GoesOn w.trail (noted items w.trail) → AllKnow w
    → Behind w [] items []
unfolding holdings_after_changes
idle_behind w items none g a =
    each_later (KnowsWell w.now w.trail) (KnowsWell w.now (noted items w.trail))
    (λ k p. still_knows w.now w.trail items k none g p) w.restarters a

leaves_behind : (w : World) (name : List ℕ) (items : List Item) → AddsNone items
    → GoesOn w.trail (noted items w.trail) → AllKnow w → Behind w [] items (becomes.Gone name ∷ [])
unfolding holdings_after_changes
leaves_behind w name items none g a =
    each_filter (KnowsWell w.now (noted items w.trail)) (λ (k : Knowledge). not (is_named name k)) w.restarters
    (each_later (KnowsWell w.now w.trail) (KnowsWell w.now (noted items w.trail))
    (λ k p. still_knows w.now w.trail items k none g p) w.restarters a)

-- ---- commands

unvalued : (w : World) (k : Knowledge) → KnowsLive w.now w.trail k
    → KnowsLive (holdings_after_changes w.now []) w.trail k
unfolding holdings_after_changes
unvalued w k p = p

made_valued : (w : World) (c : Command) (k : Knowledge) → AreRowsOf w → (c ≡ commands.Boot → ⊥)
    → LiveInRows w.now w.trail → AreMade (outcome_of_command w.now c).changes → KnowsLive w.now w.trail k
    → KnowsLive (holdings_after_changes w.now (outcome_of_command w.now c).changes) w.trail k
unfolding next
made_valued w c k r no_boot live made p =
    knows_commanded w.now (next w.now c).0 c w.trail k (moves w.now c r.numbered made) no_boot r.fit live p

valued : (w : World) (c : Command) (k : Knowledge) → AreRowsOf w → (c ≡ commands.Boot → ⊥) → LiveInRows w.now w.trail
    → KnowsLive w.now w.trail k
    → KnowsLive (holdings_after_changes w.now (outcome_of_command w.now c).changes) w.trail k
valued w c k r no_boot live p = by (outcome_of_command w.now c).changes refl
  where
    by : (cs : List Change) → (outcome_of_command w.now c).changes ≡ cs
        → KnowsLive (holdings_after_changes w.now cs) w.trail k
    by [] e = unvalued w k p
    by (x ∷ xs) e =
        subst (λ (cs : List Change). KnowsLive (holdings_after_changes w.now cs) w.trail k) e
        (made_valued w c k r no_boot live (subst AreMade (sym e) tt) p)

command_each : (w : World) (c : Command) (items : List Item)
    → items ≡ items_of w.now c (outcome_of_command w.now c).changes → AreRowsOf w → (c ≡ commands.Boot → ⊥)
    → LiveInRows w.now w.trail → GoesOn w.trail (noted items w.trail) → AllKnow w
    → Each (KnowsWell (holdings_after_changes w.now (outcome_of_command w.now c).changes) (noted items w.trail))
    w.restarters
command_each w c items are r no_boot live g a =
    let h : Holdings = holdings_after_changes w.now (outcome_of_command w.now c).changes in
    let none : AddsNone items = none_lives items (subst NoneBegun (sym are) (command_begins_none w c r)) in
    each_later (KnowsWell w.now w.trail) (KnowsWell h (noted items w.trail))
    (λ k p. still_knows h w.trail items k none g (p.0, valued w c k r no_boot live p.1)) w.restarters a

-- who is launched knows nothing, and is not up
new_knows : (h : Holdings) (t : List Item) (name : List ℕ) (actor launch : ℕ)
    → KnowsWell h t (at_first name actor launch)
new_knows h t name actor launch = (tt, λ up n run i there mine lives. absurd cc)

launched_each : (w : World) (h : Holdings) (t : List Item) (name : List ℕ) (rs : List CommandReply)
    → Each (KnowsWell h t) w.restarters → Each (KnowsWell h t) (all_becoming (launched_as w name rs) w.restarters)
launched_each w h t name [] a = a
launched_each w h t name (replies.Made launch ∷ rs) a =
    each_both (KnowsWell h t) w.restarters (at_first name (w.now.revision + 1) launch ∷ []) a
    (new_knows h t name (w.now.revision + 1) launch, tt)
launched_each w h t name (x ∷ rs) a = a

no_edit_boot : (c : Command) → is_edit c ≡ true → c ≡ commands.Boot → ⊥
no_edit_boot (commands.Edit x) e f = cc
no_edit_boot (commands.Propose p) e f = cc
no_edit_boot (commands.Launch name) e f = cc
no_edit_boot commands.Boot e f = cc

no_proposed_boot : (p : Proposal) → commands.Propose p ≡ commands.Boot → ⊥
no_proposed_boot p e = cc

no_launched_boot : (name : List ℕ) → commands.Launch name ≡ commands.Boot → ⊥
no_launched_boot name e = cc

-- ---- events

work_knows : (w : World) (k : Work) → AreRowsOf w → AreInformedOf w → LiveInRows w.now w.trail
    → GoesOn w.trail (noted k.items w.trail) → AllKnow w → IsKnowing w k → Hears w k
    → Behind w k.changes k.items k.becomes
work_knows w k r f live g a (steps m d s) (hears l c there is b) =
    parts_are w k.changes [] k.items k.becomes (knows l c) s.changes is (step_behind w l c k.items f there b g a)
work_knows w k r f live g a (steps m d s) (silent none) = absurd (subst NoneKnows s.becomes none)
work_knows w k r f live g a (idles i b) h =
    parts_are w k.changes [] k.items k.becomes [] i.changes b (idle_behind w k.items (none_lives k.items i.begun) g a)
work_knows w k r f live g a (leaves name i b) h =
    parts_are w k.changes [] k.items k.becomes (becomes.Gone name ∷ []) i.changes b
    (leaves_behind w name k.items (none_lives k.items i.begun) g a)
work_knows w k r f live g a (edits c e x m b) h =
    parts_are w k.changes (outcome_of_command w.now c).changes k.items k.becomes [] x.changes b
    (command_each w c k.items x.items r (no_edit_boot c e) live g a)
work_knows w k r f live g a (answers p was x m b) h =
    parts_are w k.changes (outcome_of_command w.now (commands.Propose p)).changes k.items k.becomes [] x.changes b
    (command_each w (commands.Propose p) k.items x.items r (no_proposed_boot p) live g a)
work_knows w k r f live g a (begins name none x m b) h =
    let c : Command = commands.Launch name in
    parts_are w k.changes (outcome_of_command w.now c).changes k.items k.becomes
    (launched_as w name ((outcome_of_command w.now c).reply ∷ [])) x.changes b
    (launched_each w (holdings_after_changes w.now (outcome_of_command w.now c).changes) (noted k.items w.trail) name
    ((outcome_of_command w.now c).reply ∷ []) (command_each w c k.items x.items r (no_launched_boot name) live g a))
work_knows w k r f live g a (boots x m b) h =
    parts_are w k.changes k.changes k.items k.becomes (becomes.NoneLeft ∷ []) refl b tt

-- the restarters' knowledge of runs holds after each event
pub knows_event : (w : World) (e : Event) → Stands w → IsTable w.table w.trail → LiveInRows w.now w.trail
    → Each (KnowsWell w.now w.trail) w.restarters
    → Each (KnowsWell (happens w e).now (happens w e).trail) (happens w e).restarters
unfolding happens world_after
knows_event w e s table live a =
    work_knows w (work_of_event w e) s.rows s.informed live (goes_on w e (owed_fresh w s)) a
    (knowing w e (has_orders w s))
    (hears_event w e
    (record {
      table = table;
      once = s.once;
      informed = s.informed;
      runs = each_later (KnowsWell w.now w.trail) (RunsAreTrue w.trail) (λ k p. p.0) w.restarters a;
    }))

-- after a boot of a found value there is no restarter that could know anything
pub knows_first : (h : Holdings)
    → Each (KnowsWell (happens (initial_world h) events.Boot).now (happens (initial_world h) events.Boot).trail)
    (happens (initial_world h) events.Boot).restarters
knows_first h =
    subst (Each (KnowsWell (happens (initial_world h) events.Boot).now (happens (initial_world h) events.Boot).trail))
    (sym (first_restarters h)) tt

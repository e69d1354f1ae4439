-- Each message has a rank, and a delivery sends only messages of lower ranks. So each turn of messages lowers the ranks
-- of the messages that wait.
use Rattle.std.proofs.Common.{◌≡◌, ◌==◌, ◌<◌, ◌≤◌, ◌+◌, ◌-◌, ℕ, zero, suc, Bool, true, false, if◌then◌else◌, List, [], ◌∷◌, ◌++◌, length, drop, map, Option, Some, None, refl, sym, ap, ◌∙◌, subst, arith}
use Rattle.std.specs.Prelude.{reverse, slice_get}
use Rattle.std.specs.List.{AllByRecursion}
use Rattle.std.proofs.lemmas.List.{append-nil, append_assoc, drop-append-le, length-drop, length-reverse, reverse-append, reverse-reverse}
use Rattle.smf_state.specs.declared.refusal.Why.{Why}
use Rattle.smf_state.specs.declared.refusal.Why.TheVariants as whys
use Rattle.smf_state.specs.declared.row.Row.{Row}
use Rattle.smf_state.specs.declared.step.Proposal.{Proposal}
use Rattle.smf_model.specs.declared.command.Command.TheVariants as commands
use Rattle.smf_model.specs.declared.command.CommandReply.{CommandReply}
use Rattle.smf_model.specs.declared.command.CommandReply.TheVariants as replies
use Rattle.smf_model.specs.Look.{launch_of}
use Rattle.smf_model.specs.Next.{outcome_of_command}
use Rattle.smf_changes.specs.Changes.{changes_since, recent}
use Rattle.smf_wire.specs.declared.message.Known.{Known}
use Rattle.smf_wire.specs.declared.message.Message.{Message}
use Rattle.smf_wire.specs.declared.message.Message.TheVariants as messages
use Rattle.smf_restarter.specs.declared.known.KnownInstance.{KnownInstance}
use Rattle.smf_restarter.specs.declared.known.Stage.{Stage}
use Rattle.smf_restarter.specs.declared.known.Stage.TheVariants.{Joining, Listing, Up}
use Rattle.smf_restarter.specs.Changes.{nothing, reply_with_rows, no_change}
use Rattle.smf_restarter.specs.Knowledge.{Knowledge, known_instance}
use Rattle.smf_restarter.specs.Replies.{Awaited, reply_to_ack, acked_by, awaited_proposal, reply_to_message, heard_rows, idle, reply_to_nack, nacked_by, refused_by}
use Rattle.smf_world.specs.declared.event.Event.TheVariants as events
use Rattle.smf_world.specs.Happens.{world_after, happens}
use Rattle.smf_world.specs.Schedule.{Progress, deliver_count, deliver_next, progress_after_next, delivering_if, is_skipped, turn_of_messages, waiting_count}
use Rattle.smf_world.specs.Worked.{answer_to, work_of_command, work_of_delivery, delivered_if, heard_by, work_of_join, work_with_answers, restarter, sent_at, work_on_message, work_of_event}
use Rattle.smf_world.specs.World.{World}
use Rattle.smf_world.proofs.DecidedQuiet.{IsAsked, heard_quiet}
use Rattle.smf_world.proofs.FormedChanges.{every_both}
use Rattle.smf_world.proofs.LiveLists.{Each}
use Rattle.smf_world.proofs.Questions.{of_answer}

-- ---- ranks

-- a restarter proposes on an order. The repository answers a proposal, a join and a question for the view or for its
-- changes. Nobody sends anything on an answer
abbrev pub rank : Message → ℕ
rank (messages.Order o) = 3
rank (messages.Propose p) = 2
rank (messages.Join name launch) = 2
rank messages.AskView = 2
rank (messages.AskChange since) = 2
rank (messages.Rows name launch rows) = 1
rank (messages.Ack name launch serial n row) = 1
rank (messages.Nack name launch serial n why row) = 1
rank (messages.View v) = 1
rank (messages.Changes news) = 1

abbrev pub IsBelow : ℕ → Message → Type 0
IsBelow n m = rank m < n

abbrev pub AreBelow : ℕ → List Message → Type 0
AreBelow n ms = AllByRecursion (IsBelow n) ms

one_below_two : 1 < 2
one_below_two = omega arith

two_below_three : 2 < 3
two_below_three = omega arith

-- ---- what restarters send

-- a restarter sends nothing on its rows
rows_send : (k : Knowledge) (launch : ℕ) (rows : List Known) (s : Stage)
    → AreBelow 1 (heard_rows k launch rows s).messages
rows_send k launch rows Up = tt
rows_send k launch rows Listing = tt
rows_send k launch rows Joining = by (launch == k.launch)
  where
    by : (b : Bool)
        → AreBelow 1 (if b then reply_with_rows rows (record no_change { stage = Some Listing; put = map idle rows })
        else nothing).messages
    by true = tt
    by false = tt

-- a restarter sends nothing on an answer to a proposal
acked_sends : (k : Knowledge) (row : Row) (i : KnownInstance) (o : Option Awaited)
    → AreBelow 1 (acked_by k row i o).messages
acked_sends k row i None = tt
acked_sends k row i (Some a) = tt

ack_sends : (k : Knowledge) (launch serial : ℕ) (row : Row) (o : Option KnownInstance)
    → AreBelow 1 (reply_to_ack k launch serial row o).messages
ack_sends k launch serial row None = tt
ack_sends k launch serial row (Some i) = acked_sends k row i (awaited_proposal launch serial i.phase)

refusal_sends : (i : KnownInstance) (why : Why) (row : Option Row) → AreBelow 1 (refused_by i why row).messages
refusal_sends i whys.Owner row = tt
refusal_sends i why None = tt
refusal_sends i why (Some row) = tt

nacked_sends : (why : Why) (row : Option Row) (i : KnownInstance) (o : Option Awaited)
    → AreBelow 1 (nacked_by why row i o).messages
nacked_sends why row i None = tt
nacked_sends why row i (Some a) = refusal_sends i why row

nack_sends : (launch serial : ℕ) (why : Why) (row : Option Row) (o : Option KnownInstance)
    → AreBelow 1 (reply_to_nack launch serial why row o).messages
nack_sends launch serial why row None = tt
nack_sends launch serial why row (Some i) = nacked_sends why row i (awaited_proposal launch serial i.phase)

-- a restarter sends joins and proposals alone, and both rank below an order
asked_below : (m : Message) → IsAsked m → IsBelow 3 m
asked_below (messages.Join name launch) a = two_below_three
asked_below (messages.Propose p) a = two_below_three
asked_below (messages.Rows name launch rows) a = absurd a
asked_below (messages.Ack name launch serial n row) a = absurd a
asked_below (messages.Nack name launch serial n why row) a = absurd a
asked_below messages.AskView a = absurd a
asked_below (messages.AskChange since) a = absurd a
asked_below (messages.View v) a = absurd a
asked_below (messages.Changes news) a = absurd a
asked_below (messages.Order o) a = absurd a

all_asked : (ms : List Message) → Each IsAsked ms → AreBelow 3 ms
all_asked [] a = tt
all_asked (m ∷ ms) a = (asked_below m a.0, all_asked ms a.1)

-- ---- what a delivery sends

told_sends : (n : ℕ) (m : Message) (o : Option Knowledge)
    → ((k : Knowledge) → AreBelow n (reply_to_message k m).messages) → AreBelow n (work_on_message m o).messages
unfolding heard_by
told_sends n m None sends = tt
told_sends n m (Some k) sends = sends k

answer_sends : (p : Proposal) (r : CommandReply) → AreBelow 2 (answer_to p r)
answer_sends p (replies.Granted row) = (one_below_two, tt)
answer_sends p (replies.Stale why row) = (one_below_two, tt)
answer_sends p _ = tt

join_sends : (w : World) (name : List ℕ) (launch : ℕ) (b : Bool) → AreBelow 2 (work_of_join w name launch b).messages
join_sends w name launch true = (one_below_two, tt)
join_sends w name launch false = tt

proposal_sends : (w : World) (p : Proposal)
    → AreBelow 2 (work_with_answers p (work_of_command w (commands.Propose p))).messages
unfolding work_of_command
proposal_sends w p = answer_sends p (outcome_of_command w.now (commands.Propose p)).reply

heard_sends : (k : Knowledge) (m : Message) → IsBelow 2 m → AreBelow 1 (reply_to_message k m).messages
unfolding reply_to_message
heard_sends k (messages.Rows name launch rows) b = rows_send k launch rows k.stage
heard_sends k (messages.Ack name launch serial n row) b = ack_sends k launch serial row (known_instance k n)
heard_sends k (messages.Nack name launch serial n why row) b = nack_sends launch serial why row (known_instance k n)
heard_sends k (messages.Order o) b = absurd (omega arith)
heard_sends k (messages.Join name launch) b = tt
heard_sends k (messages.Propose p) b = tt
heard_sends k messages.AskView b = tt
heard_sends k (messages.AskChange since) b = tt
heard_sends k (messages.View v) b = tt
heard_sends k (messages.Changes news) b = tt

-- a delivery sends only messages of lower ranks
pub delivery_sends : (w : World) (m : Message) → AreBelow (rank m) (work_of_delivery w m).messages
unfolding work_of_delivery
delivery_sends w (messages.Join name launch) = join_sends w name launch (launch == launch_of w.now name)
delivery_sends w (messages.Rows name launch rows) =
    told_sends 1 (messages.Rows name launch rows) (restarter w name)
    (λ k. heard_sends k (messages.Rows name launch rows) one_below_two)
delivery_sends w (messages.Propose p) = proposal_sends w p
delivery_sends w (messages.Ack name launch serial n row) =
    told_sends 1 (messages.Ack name launch serial n row) (restarter w name)
    (λ k. heard_sends k (messages.Ack name launch serial n row) one_below_two)
delivery_sends w (messages.Nack name launch serial n why row) =
    told_sends 1 (messages.Nack name launch serial n why row) (restarter w name)
    (λ k. heard_sends k (messages.Nack name launch serial n why row) one_below_two)
delivery_sends w messages.AskView = (one_below_two, tt)
delivery_sends w (messages.View v) = tt
delivery_sends w (messages.AskChange from) = (
  of_answer (IsBelow 2) w.now from (changes_since (recent w.history.first w.history.past) w.now from) one_below_two
      (λ c. one_below_two),
  tt,
)
delivery_sends w (messages.Changes c) = tt
delivery_sends w (messages.Order o) =
    told_sends 3 (messages.Order o) (restarter w o.restarter)
    (λ k. all_asked (reply_to_message k (messages.Order o)).messages (heard_quiet k (messages.Order o)))

-- ---- the front of what waits

-- the rest of a list from a place begins with the item at that place
front_at : {X : Type 0} (xs : List X) (n : ℕ) (x : X) (rest : List X) → drop n xs ≡ x ∷ rest → slice_get xs n ≡ Some x
front_at [] zero x rest e = absurd cc
front_at [] (suc n) x rest e = absurd cc
front_at (y ∷ ys) zero x rest e = cc
front_at (y ∷ ys) (suc n) x rest e = front_at ys n x rest e

-- one place on, the rest is left
rest_after : {X : Type 0} (xs : List X) (n : ℕ) (x : X) (rest : List X) → drop n xs ≡ x ∷ rest
    → (drop (n + 1) xs ≡ rest) × (n + 1 ≤ length xs)
rest_after [] zero x rest e = absurd cc
rest_after [] (suc n) x rest e = absurd cc
rest_after (y ∷ ys) zero x rest e = (cc, omega arith)
rest_after (y ∷ ys) (suc n) x rest e =
    let ih = rest_after ys n x rest e in
    let same : suc n + 1 ≡ suc (n + 1) = omega arith in
    let le : n + 1 ≤ length ys = ih.1 in
    (ap (λ k. drop k (y ∷ ys)) same ∙ ih.0, omega arith)

-- ---- what waits

-- the messages from the next place on, in the order of sending
abbrev pub waits : Progress → List Message
waits p = drop p.next (reverse p.world.sent)

count_is : (p : Progress) → waiting_count p ≡ length (waits p)
count_is p = ap (λ n. n - p.next) (sym (length-reverse p.world.sent)) ∙ sym (length-drop p.next (reverse p.world.sent))

sent_before : (new sent : List Message) → reverse (reverse new ++ sent) ≡ reverse sent ++ new
sent_before new sent = reverse-append (reverse new) sent ∙ ap (λ ms. reverse sent ++ ms) (reverse-reverse new)

-- a delivery puts what it sends after all that was sent before
happens_sends : (w : World) (place : ℕ)
    → reverse (happens w (events.Deliver place)).sent ≡ reverse w.sent ++ (delivered_if w (sent_at w place)).messages
unfolding happens world_after work_of_event
happens_sends w place = sent_before (delivered_if w (sent_at w place)).messages w.sent

-- a delivery takes the first message that waits, and puts messages of lower ranks after the last
record Passes (m : Message) (before after : List Message) : Type 0 where
  sends : List Message
  are : after ≡ before ++ sends
  lower : AreBelow (rank m) sends

passes_by : (b : Bool) (p : Progress) (m : Message) (rest : List Message) → waits p ≡ m ∷ rest
    → Passes m rest (waits (progress_after_next b p))
passes_by true p m rest e =
    let after = rest_after (reverse p.world.sent) p.next m rest e in
    record { sends = []; are = after.0 ∙ sym (append-nil rest); lower = tt }
passes_by false p m rest e =
    let after = rest_after (reverse p.world.sent) p.next m rest e in
    let at : sent_at p.world p.next ≡ Some m = front_at (reverse p.world.sent) p.next m rest e in
    let new : List Message = (delivered_if p.world (sent_at p.world p.next)).messages in
    record {
      sends = new;
      are =
          ap (λ ms. drop (p.next + 1) ms) (happens_sends p.world p.next)
          ∙ drop-append-le (p.next + 1) (reverse p.world.sent) new after.1
          ∙ ap (λ ms. ms ++ new) after.0;
      lower = subst (λ (o : Option Message). AreBelow (rank m) (delivered_if p.world o).messages) (sym at)
          (delivery_sends p.world m);
    }

passes : (p : Progress) (m : Message) (rest : List Message) → waits p ≡ m ∷ rest
    → Passes m rest (waits (deliver_next p))
unfolding deliver_next
passes p m rest e =
    let at : sent_at p.world p.next ≡ Some m = front_at (reverse p.world.sent) p.next m rest e in
    subst (λ (o : Option Message). Passes m rest (waits (delivering_if o p))) (sym at)
    (passes_by (is_skipped p) p m rest e)

-- ---- a turn

below_more : (n k : ℕ) (ms : List Message) → n ≤ k → AreBelow n ms → AreBelow k ms
below_more n k [] le a = tt
below_more n k (m ∷ ms) le a = let first : rank m < n = a.0 in (omega arith, below_more n k ms le a.1)

-- once all that waited at first is delivered, only what was sent meanwhile waits
count_lowers : (k : ℕ) (p : Progress) (ms more : List Message) → waits p ≡ ms ++ more → AreBelow (k + 1) ms
    → AreBelow k more
    → AreBelow k (waits (deliver_count (length ms) p))
count_lowers k p [] more e a b = subst (AreBelow k) (sym e) b
count_lowers k p (m ∷ ms) more e a b =
    let s : Passes m (ms ++ more) (waits (deliver_next p)) = passes p m (ms ++ more) e in
    let first : rank m < k + 1 = a.0 in
    count_lowers k (deliver_next p) ms (more ++ s.sends) (s.are ∙ append_assoc ms more s.sends) a.1
    (every_both (IsBelow k) more s.sends b (below_more (rank m) k s.sends (omega arith) s.lower))

-- a turn of messages lowers the greatest rank of what waits
turn_lowers : (k : ℕ) (p : Progress) → AreBelow (k + 1) (waits p) → AreBelow k (waits (turn_of_messages p))
unfolding turn_of_messages
turn_lowers k p a =
    subst (λ (n : ℕ). AreBelow k (waits (deliver_count n p))) (sym (count_is p))
    (count_lowers k p (waits p) [] (sym (append-nil (waits p))) a tt)

-- ---- three turns

-- no rank is above three
all_below_four : (ms : List Message) → AreBelow 4 ms
all_below_four [] = tt
all_below_four (m ∷ ms) = (below_four m, all_below_four ms)
  where
    below_four : (x : Message) → IsBelow 4 x
    below_four (messages.Order o) = omega arith
    below_four (messages.Propose p) = omega arith
    below_four (messages.Join name launch) = omega arith
    below_four messages.AskView = omega arith
    below_four (messages.AskChange since) = omega arith
    below_four (messages.Rows name launch rows) = omega arith
    below_four (messages.Ack name launch serial n row) = omega arith
    below_four (messages.Nack name launch serial n why row) = omega arith
    below_four (messages.View v) = omega arith
    below_four (messages.Changes news) = omega arith

-- and none is below one
none_below_one : (ms : List Message) → AreBelow 1 ms → length ms ≡ 0
none_below_one [] a = refl
none_below_one (m ∷ ms) a = absurd (above m a.0)
  where
    above : (x : Message) → IsBelow 1 x → ⊥
    above (messages.Order o) b = omega arith
    above (messages.Propose p) b = omega arith
    above (messages.Join name launch) b = omega arith
    above messages.AskView b = omega arith
    above (messages.AskChange since) b = omega arith
    above (messages.Rows name launch rows) b = omega arith
    above (messages.Ack name launch serial n row) b = omega arith
    above (messages.Nack name launch serial n why row) b = omega arith
    above (messages.View v) b = omega arith
    above (messages.Changes news) b = omega arith

-- after three turns of messages nothing waits
pub none_waits : (p : Progress) → waiting_count (turn_of_messages (turn_of_messages (turn_of_messages p))) ≡ 0
none_waits p =
    let q : Progress = turn_of_messages p in
    let r : Progress = turn_of_messages q in
    let s : Progress = turn_of_messages r in
    count_is s ∙ none_below_one (waits s)
    (turn_lowers 1 r (turn_lowers 2 q (turn_lowers 3 p (all_below_four (waits p)))))

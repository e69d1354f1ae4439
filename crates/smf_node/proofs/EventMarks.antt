-- The marks after an event, and its reply.
use Rattle.std.proofs.Common.{◌≡◌, ◌==◌, ℕ, Bool, List, [], ◌∷◌, Option, Some, None, is_some, true, find, map, slice_get, nat_lt, refl, sym, ap, ◌∙◌, subst}
use Rattle.std.specs.List.{list_any}
use Rattle.smf_contract.specs.declared.event.ContractEvent.{ContractEvent}
use Rattle.smf_edge.specs.Answers.{Seen}
use Rattle.smf_machine.specs.Children.{world_after_poll}
use Rattle.smf_machine.specs.Runners.{HasTicked, Rules}
use Rattle.smf_model.specs.declared.command.Command.TheVariants as commands
use Rattle.smf_model.specs.declared.command.Edit.{Edit}
use Rattle.smf_model.specs.declared.command.CommandReply.{CommandReply}
use Rattle.smf_model.specs.declared.journal.RepoFault.{RepoFault}
use Rattle.smf_model.specs.Next.{outcome_of_command}
use Rattle.smf_node.proofs.Found.{any_found}
use Rattle.smf_node.specs.declared.fault.NodeFault.{NodeFault}
use Rattle.smf_node.specs.declared.marks.Marks.{Marks}
use Rattle.smf_node.specs.Faults.{IsLack}
use Rattle.smf_node.specs.Marks.{progress_of}
use Rattle.smf_node.specs.Rounds.{with_world}
use Rattle.smf_restarter.specs.Knowledge.{Kept}
use Rattle.smf_world.specs.declared.event.Event.{Event}
use Rattle.smf_world.specs.declared.event.Event.TheVariants as events
use Rattle.smf_world.specs.Happens.{happens}
use Rattle.smf_world.specs.Schedule.{Progress, is_heard_in, is_revision, progress_with_mark, on}
use Rattle.smf_world.specs.Worked.{work_of_command, is_actor, work_of_event}
use Rattle.smf_world.specs.World.{World}

happened : (w : World) (m : Marks) (e : Event) (h b : Bool) → h ≡ is_heard_in w e → b ≡ is_revision w (happens w e)
    → progress_with_mark e h b (progress_of (happens w e) m) ≡ on (progress_of w m) e
unfolding progress_of
happened w m e h b world_after_poll is =
    ap (λ (x : Bool). progress_with_mark e x b (progress_of (happens w e) m)) world_after_poll
    ∙ ap (λ (x : Bool). progress_with_mark e (is_heard_in w e) x (progress_of (happens w e) m)) is

heard_here : (w : World) (m : Marks) (p : Progress) (e : Event) (h : Bool) → progress_of w m ≡ p
    → h ≡ is_heard_in p.world e → h ≡ is_heard_in w e
unfolding progress_of
heard_here w m p e h before world_after_poll = world_after_poll
    ∙ ap (λ (x : Progress). is_heard_in x.world e) (sym before)

abbrev IsOn : Progress → Event → Progress → Type 0
IsOn q e p = q ≡ on p e

-- an event happened to the machine, and was marked
pub marked_on : (w v : World) (m n k : Marks) (p : Progress) (e : Event) (h : Bool) (i j : ℕ) → progress_of w m ≡ p
    → progress_of w n ≡ progress_of w m → v ≡ happens w e → h ≡ is_heard_in p.world e
    → i ≡ w.now.revision → j ≡ v.now.revision
    → progress_of v k ≡ progress_with_mark e h (nat_lt i j) (progress_of v n) → progress_of v k ≡ on p e
marked_on w v m n k p e h i j before room made world_after_poll old new after =
    subst (IsOn (progress_of v k) e) before
    (after
    ∙ ap (λ (x : World). progress_with_mark e h (nat_lt i j) (progress_of x n)) made
    ∙ happened w n e h (nat_lt i j) (heard_here w m p e h before world_after_poll)
    (ap (λ (x : ℕ). nat_lt x j) old ∙ ap (nat_lt w.now.revision) (new ∙ ap (λ (x : World). x.now.revision) made))
    ∙ ap (λ (x : Progress). on x e) room)

abbrev IsReplyOf : Event → List CommandReply → Progress → Type 0
IsReplyOf e rs p = rs ≡ (work_of_event p.world e).reply

pub replied : (w : World) (m : Marks) (p : Progress) (e : Event) (rs : List CommandReply) → progress_of w m ≡ p
    → rs ≡ (work_of_event w e).reply → rs ≡ (work_of_event p.world e).reply
unfolding progress_of
replied w m p e rs before said = subst (IsReplyOf e rs) before said

abbrev LacksIn : (RepoFault → Type 0) → Event → NodeFault → Progress → Type 0
LacksIn fails e f p = IsLack fails p.world e f

pub lacks : (fails : RepoFault → Type 0) (w : World) (m : Marks) (p : Progress) (e : Event) (f : NodeFault)
    → progress_of w m ≡ p → IsLack fails w e f → IsLack fails p.world e f
unfolding progress_of
lacks fails w m p e f before lack = subst (LacksIn fails e f) before lack

pub delivery_marked : (e : Event) (place : ℕ) (h new : Bool) (p q : Progress) → e ≡ events.Deliver place
    → q ≡ progress_with_mark (events.Deliver place) h new p → q ≡ progress_with_mark e h new p
delivery_marked e place h new p q is made = made ∙ ap (λ (x : Event). progress_with_mark x h new p) (sym is)

pub boot_marked : (e : Event) (h new : Bool) (p q : Progress) → e ≡ events.Boot → new ≡ true
    → q ≡ record p { looked = 0; unheard = []; heard = [] } → q ≡ progress_with_mark e h new p
boot_marked e h new p q is booted made = made ∙ ap (λ (x : Bool). progress_with_mark events.Boot h x p) (sym booted)
    ∙ ap (λ (x : Event). progress_with_mark x h new p) (sym is)

-- ---- the reply to an edit

one_reply : (w : World) (edit : Edit) → (work_of_event w (events.Client edit)).reply
    ≡ (outcome_of_command w.now (commands.Edit edit)).reply ∷ []
unfolding work_of_event work_of_command
one_reply w edit = refl

abbrev reply_or : CommandReply → Option CommandReply → CommandReply
reply_or r None = r
reply_or r (Some x) = x

none_is : (r : CommandReply) → Some r ≡ None → ⊥
none_is r e = absurd cc

pub no_reply : (w : World) (edit : Edit) (rs : List CommandReply) (o : Option CommandReply)
    → rs ≡ (work_of_event w (events.Client edit)).reply → o ≡ slice_get rs 0 → o ≡ None → ⊥
no_reply w edit rs o said first none =
    none_is (outcome_of_command w.now (commands.Edit edit)).reply
    (sym (first ∙ ap (λ (xs : List CommandReply). slice_get xs 0) (said ∙ one_reply w edit)) ∙ none)

pub the_reply : (w : World) (edit : Edit) (rs : List CommandReply) (o : Option CommandReply) (r : CommandReply)
    → rs ≡ (work_of_event w (events.Client edit)).reply → o ≡ slice_get rs 0 → o ≡ Some r
    → (work_of_event w (events.Client edit)).reply ≡ r ∷ []
the_reply w edit rs o r said first some =
    one_reply w edit
    ∙ ap (λ (x : CommandReply). x ∷ [])
    (ap (reply_or r) (sym (first ∙ ap (λ (xs : List CommandReply). slice_get xs 0) (said ∙ one_reply w edit))
    ∙ some))

-- ---- actors

abbrev IsLaunchedActor : ℕ → Bool → Progress → Type 0
IsLaunchedActor actor b p = b ≡ is_some (find (is_actor actor) p.world.restarters)

pub actor_is : (w : World) (m : Marks) (p : Progress) (actor : ℕ) (ks : List Kept) (b : Bool) → progress_of w m ≡ p
    → map (λ k. k.known) ks ≡ w.restarters → b ≡ list_any (λ k. k.known.actor == actor) ks
    → b ≡ is_some (find (is_actor actor) p.world.restarters)
unfolding progress_of
actor_is w m p actor ks b before same e =
    subst (IsLaunchedActor actor b) before (e ∙ any_found actor ks ∙ ap (λ rs. is_some (find (is_actor actor) rs)) same)

-- ---- who runs methods leaves the marks as they are

moved : (w v : World) (m : Marks) → progress_of v m ≡ with_world (progress_of w m) v
unfolding progress_of
moved w v m = refl

-- the world of a machine is that of its progress
world_is : (w : World) (m : Marks) → (progress_of w m).world ≡ w
unfolding progress_of
world_is w m = refl

pub moved_to : (w v : World) (m : Marks) (p : Progress) → progress_of w m ≡ p → progress_of v m ≡ with_world p v
moved_to w v m p before = moved w v m ∙ ap (λ (x : Progress). with_world x v) before

pub marks_stay : (w v : World) (m : Marks) (p q : Progress) → progress_of w m ≡ p → progress_of v m ≡ q
    → q ≡ with_world p q.world
marks_stay w v m p q before after = sym after ∙ moved_to w v m p before
    ∙ ap (λ (x : World). with_world p x) (sym (world_is v m) ∙ ap (λ (x : Progress). x.world) after)

pub world_before : (w : World) (m : Marks) (p : Progress) → progress_of w m ≡ p → w ≡ p.world
world_before w m p before = sym (world_is w m) ∙ ap (λ (x : Progress). x.world) before

pub heard_to : (o : Option ContractEvent) (w v : World) (m : Marks) (p : Progress) → progress_of w m ≡ p
    → v ≡ world_after_poll o w → progress_of v m ≡ with_world p (world_after_poll o p.world)
heard_to o w v m p before is = moved_to w v m p before
    ∙ ap (λ (x : World). with_world p x) (is ∙ ap (world_after_poll o) (world_before w m p before))

pub ticked_to : (r : Rules) (name : List ℕ) (n : ℕ) (w v : World) (m : Marks) (p q : Progress) (s t : Seen)
    → progress_of w m ≡ p → progress_of v m ≡ q → HasTicked r name n w s v t → HasTicked r name n p.world s q.world t
ticked_to r name n w v m p q s t before after h =
    subst (λ (x : World). HasTicked r name n p.world s x t) (world_before v m q after)
    (subst (λ (x : World). HasTicked r name n x s v t) (world_before w m p before) h)

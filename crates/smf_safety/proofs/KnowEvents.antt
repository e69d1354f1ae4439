-- Each event keeps the clauses on the knowledge of launched restarters. They say only messages that may be said, and
-- begin only runs that were given.
use Rattle.std.proofs.Common.{◌≡◌, ◌⊎◌, inl, inr, ℕ, ◌+◌, ◌≤◌, ◌<◌, nat_lt, not, Bool, true, false, if◌then◌else◌, List, [], ◌∷◌, ◌++◌, reverse, Some, None, refl, sym, ap, ◌∙◌, subst, arith}
use Rattle.std.proofs.lemmas.Grind.{reverse_onto}
use Rattle.std.proofs.lemmas.List.{append_assoc}
use Rattle.std.specs.Option.{option_map_or}
use Rattle.std.specs.Ordering.{is_eq}
use Rattle.smf_fmri.specs.ByKey.{lookup}
use Rattle.smf_fmri.proofs.Lookups.{equal_from_test, same_key}
use Rattle.smf_contract.specs.declared.cookie.Method.{Method}
use Rattle.smf_contract.specs.declared.cookie.Method.TheVariants as methods
use Rattle.smf_state.specs.declared.row.Row.{Row}
use Rattle.smf_state.specs.declared.step.Proposal.{Proposal}
use Rattle.smf_model.specs.declared.change.Change.{Change}
use Rattle.smf_model.specs.declared.change.Change.TheVariants.{PutLaunch, SetRevision}
use Rattle.smf_model.specs.declared.change.Outcome.{Outcome}
use Rattle.smf_model.specs.declared.command.Command.{Command}
use Rattle.smf_model.specs.declared.command.Command.TheVariants as commands
use Rattle.smf_model.specs.declared.command.CommandReply.{CommandReply}
use Rattle.smf_model.specs.declared.command.CommandReply.TheVariants as replies
use Rattle.smf_model.specs.declared.held.Instance.{Instance}
use Rattle.smf_model.specs.declared.held.Launch.{Launch}
use Rattle.smf_model.specs.History.{History}
use Rattle.smf_model.specs.Contents.{Holdings}
use Rattle.smf_model.specs.Laws.{Stays}
use Rattle.smf_model.specs.Look.{by_launch, holdings_after_changes, launch_of}
use Rattle.smf_model.specs.Next.{outcome_of_command, asked_launch, greatest, next, next_launch, refusal_with as refusing}
use Rattle.smf_model.proofs.LawLists.{some_same}
use Rattle.smf_wire.specs.declared.message.Message.{Message}
use Rattle.smf_wire.specs.declared.message.Message.TheVariants as messages
use Rattle.smf_restarter.specs.declared.known.KnownInstance.{KnownInstance}
use Rattle.smf_restarter.specs.declared.known.Owed.{Owed}
use Rattle.smf_restarter.specs.declared.known.Phase.TheVariants as phases
use Rattle.smf_restarter.specs.Knowledge.{Knowledge, at_first}
use Rattle.smf_restarter.specs.Replies.{reply_to_message}
use Rattle.smf_restarter.specs.Ticks.{own_tick, reply_to_tick}
use Rattle.smf_world.specs.declared.event.Event.{Event}
use Rattle.smf_world.specs.declared.event.SpawnAnswer.TheVariants as spawning
use Rattle.smf_world.specs.declared.item.Item.{Item}
use Rattle.smf_world.specs.declared.work.Becomes.{Becomes}
use Rattle.smf_world.specs.declared.work.Becomes.TheVariants as becomes
use Rattle.smf_world.specs.declared.work.Work.{Work}
use Rattle.smf_world.specs.Happens.{all_becoming, world_after, happens}
use Rattle.smf_world.specs.Items.{items_of}
use Rattle.smf_world.specs.Safe.{WasSpawned}
use Rattle.smf_world.specs.Worked.{accepted_command, answer_to, is_named, knows, launched_as, restarter, work_of_event}
use Rattle.smf_world.specs.World.{World}
use Rattle.smf_world.proofs.ItemsMade.{AreMade}
use Rattle.smf_world.proofs.LiveEach.{each_both, each_filter, each_in, each_later}
use Rattle.smf_world.proofs.LiveLists.{Each, IsIn}
use Rattle.smf_world.proofs.TrailItems.{noted}
use Rattle.smf_world.proofs.RowClauses.{IsSpent, WasProposed, WasSaid}
use Rattle.smf_world.proofs.RowGrants.{answers as all_answers}
use Rattle.smf_safety.proofs.RowHistory.{grew, more}
use Rattle.smf_world.proofs.RowLaunches.{is_launching, launched_counts, launches_stay}
use Rattle.smf_safety.proofs.RowMade.{moves}
use Rattle.smf_safety.proofs.RowWorld.{NoneBegun, items_begin_none, none_begun}
use Rattle.smf_safety.proofs.SaidEvents.{AreRowsOf, BeginsTheGiven, MaySay, addressed}
use Rattle.smf_safety.proofs.SaidLater.{IsAskable}
use Rattle.smf_world.proofs.DecidedClauses.{OrderSaid}
use Rattle.smf_safety.proofs.KnowClauses.{IsInformed, IsOwing, run_under}
use Rattle.smf_safety.proofs.KnowSteps.{Does, Doing, IsAt, builds, forgets, granted, joins, learns, lists, proposes, refused, repeats, rests, spawns, turns}
use Rattle.smf_safety.proofs.KnowKept.{informed_elsewhere}
use Rattle.smf_safety.proofs.KnowEvery.{BegunBy, IsAside, IsBegunIn, elsewhere_aside, elsewhere_same, informed_does, owing_at}
use Rattle.smf_safety.proofs.KnowReplies.{heard_does, of_reply}
use Rattle.smf_safety.proofs.KnowTicks.{acted_doing, own_does, ticked_does}
use Rattle.smf_safety.proofs.KnowLater.{informed_later, proposal_is}
use Rattle.smf_safety.proofs.KnowAnswers.{informed_answer, informed_first, informed_other}
use Rattle.smf_safety.proofs.KnowApart.{AreApart, all_know, filter_apart, knowing_apart, launched_apart, none_named, restarter_found}
use Rattle.smf_safety.proofs.KnowSays.{may_does, order_given}
use Rattle.smf_safety.proofs.KnowWalked.{HasOrders, IsKnowing, ToldIn, answers, begins, begun_on, boots, edits, idles, is_edit, knowing, leaves, steps}

-- launched restarters are informed, and no two have one name
pub record AreInformed (y : History) (h : Holdings) (ms : List Message) (t : List Item)
    (ks : List Knowledge) : Type 0 where
  pub informed : Each (IsInformed y h ms (begun_on t)) ks
  pub apart : AreApart ks

abbrev pub AreInformedOf : World → Type 0
AreInformedOf w = AreInformed w.history w.now w.sent w.trail w.restarters

-- restarters are informed after work with these parts
abbrev Behind : World → List Change → List Command → List Message → List Item → List Becomes → Type 0
Behind w cs past says items bs =
    AreInformed (record w.history { past = past ++ w.history.past }) (holdings_after_changes w.now cs)
    (reverse says ++ w.sent) (noted items w.trail) (all_becoming bs w.restarters)

parts_are : (w : World) (cs ds : List Change) (past qast : List Command) (says tays : List Message)
    (items : List Item) (bs es : List Becomes) → cs ≡ ds → past ≡ qast → says ≡ tays → bs ≡ es
    → Behind w ds qast tays items es → Behind w cs past says items bs
parts_are w cs ds past qast says tays items bs es a b c d x =
    subst (λ (z : List Change). Behind w z past says items bs) (sym a)
    (subst (λ (z : List Command). Behind w ds z says items bs) (sym b)
    (subst (λ (z : List Message). Behind w ds qast z items bs) (sym c)
    (subst (λ (z : List Becomes). Behind w ds qast tays items z) (sym d) x)))

-- ---- a step

step_behind : (w : World) (l : Knowledge) (d : Doing) (items : List Item) → AreRowsOf w → AreInformedOf w
    → IsIn l w.restarters → Does l (ToldIn w l) d
    → BegunBy (begun_on w.trail) d.begun (begun_on (noted items w.trail))
    → Behind w [] [] d.said items (knows l d.change)
unfolding holdings_after_changes
step_behind w l d items r f there does begun =
    let B : ℕ → ℕ → Type 0 = begun_on w.trail in
    let C : ℕ → ℕ → Type 0 = begun_on (noted items w.trail) in
    let is_l : IsInformed w.history w.now w.sent B l =
    each_in (IsInformed w.history w.now w.sent B) l w.restarters f.informed there in
    record {
      informed = all_know (IsInformed w.history w.now w.sent B)
          (IsInformed w.history w.now (reverse d.said ++ w.sent) C) l d.change w.restarters f.apart there
          (λ p. informed_does w.history w.now w.sent B C l d r.said r.explained begun does p)
          (λ m away p. informed_other w.history w.now w.sent B C l m d (ToldIn w l) away begun does is_l p) f.informed;
      apart = knowing_apart l.name d.change w.restarters f.apart;
    }

-- ---- nothing that is known of

reverse_more : (x : Message) (xs ys : List Message) → reverse (x ∷ xs) ++ ys ≡ reverse xs ++ (x ∷ ys)
reverse_more x xs ys = ap (λ (l : List Message). l ++ ys) (reverse_onto xs x []) ∙ append_assoc (reverse xs) (x ∷ []) ys

informed_asides : (y : History) (h : Holdings) (ms xs : List Message) (B : ℕ → ℕ → Type 0) (k : Knowledge)
    → Each IsAside xs → IsInformed y h ms B k → IsInformed y h (reverse xs ++ ms) B k
informed_asides y h ms [] B k a f = f
informed_asides y h ms (x ∷ xs) B k a f =
    subst (λ (l : List Message). IsInformed y h l B k) (sym (reverse_more x xs ms))
    (informed_asides y h (x ∷ ms) xs B k a.1
    (informed_elsewhere y h ms (x ∷ ms) B B k (elsewhere_aside ms x k a.0) (λ n run of there owner b. b) f))

fewer_runs : (y : History) (h : Holdings) (ms : List Message) (t items : List Item) (k : Knowledge) → NoneBegun items
    → IsInformed y h ms (begun_on t) k → IsInformed y h ms (begun_on (noted items t)) k
fewer_runs y h ms t items k none f =
    informed_elsewhere y h ms ms (begun_on t) (begun_on (noted items t)) k (elsewhere_same ms k)
    (λ n run of there owner b. none_begun n run items t none b) f

idle_each : (w : World) (xs : List Message) (items : List Item) → Each IsAside xs → NoneBegun items → AreInformedOf w
    → Each (IsInformed w.history w.now (reverse xs ++ w.sent) (begun_on (noted items w.trail))) w.restarters
idle_each w xs items a none f =
    each_later (IsInformed w.history w.now w.sent (begun_on w.trail))
    (IsInformed w.history w.now (reverse xs ++ w.sent) (begun_on (noted items w.trail)))
    (λ k p. informed_asides w.history w.now w.sent xs (begun_on (noted items w.trail)) k a
    (fewer_runs w.history w.now w.sent w.trail items k none p)) w.restarters f.informed

idle_behind : (w : World) (xs : List Message) (items : List Item) → Each IsAside xs → NoneBegun items
    → AreInformedOf w → Behind w [] [] xs items []
unfolding holdings_after_changes
idle_behind w xs items a none f = record { informed = idle_each w xs items a none f; apart = f.apart }

leaves_behind : (w : World) (name : List ℕ) (xs : List Message) (items : List Item) → Each IsAside xs
    → NoneBegun items → AreInformedOf w → Behind w [] [] xs items (becomes.Gone name ∷ [])
unfolding holdings_after_changes
leaves_behind w name xs items a none f =
    record {
      informed = each_filter (IsInformed w.history w.now (reverse xs ++ w.sent) (begun_on (noted items w.trail)))
          (λ k. not (is_named name k)) w.restarters (idle_each w xs items a none f);
      apart = filter_apart (λ k. not (is_named name k)) w.restarters f.apart;
    }

-- ---- commands

-- no command begins a run
pub command_begins_none : (w : World) (c : Command) → AreRowsOf w
    → NoneBegun (items_of w.now c (outcome_of_command w.now c).changes)
unfolding items_of
command_begins_none w c r = by (outcome_of_command w.now c).changes refl
  where
    nothing : (x : Command) → NoneBegun (items_of w.now x [])
    nothing (commands.Edit e) = tt
    nothing (commands.Propose p) = tt
    nothing (commands.Launch name) = tt
    nothing commands.Boot = tt

    by : (cs : List Change) → (outcome_of_command w.now c).changes ≡ cs → NoneBegun (items_of w.now c cs)
    by [] e = nothing c
    by (x ∷ xs) e =
        subst (λ (cs : List Change). NoneBegun (items_of w.now c cs)) e
        (items_begin_none w.now c r.numbered (subst AreMade (sym e) tt))

-- a restarter is informed after the changes of a command
abbrev Valued : World → Knowledge → List Change → List Command → Type 0
Valued w k cs past =
    IsInformed (record w.history { past = past ++ w.history.past }) (holdings_after_changes w.now cs) w.sent
    (begun_on w.trail) k

unvalued : (w : World) (k : Knowledge) → IsInformed w.history w.now w.sent (begun_on w.trail) k → Valued w k [] []
unfolding holdings_after_changes
unvalued w k f = f

made_valued : (w : World) (c : Command) (k : Knowledge) → AreRowsOf w → IsAskable w.sent c → (c ≡ commands.Boot → ⊥)
    → AreMade (outcome_of_command w.now c).changes → launch_of (next w.now c).0 k.name ≡ launch_of w.now k.name
    → IsInformed w.history w.now w.sent (begun_on w.trail) k → Valued w k (outcome_of_command w.now c).changes (c ∷ [])
unfolding next
made_valued w c k r ask no_boot made launches f =
    informed_later w.history (more w.history c) w.now c (next w.now c).0 w.sent (begun_on w.trail) k
    (record {
      moves = moves w.now c r.numbered made;
      fit = r.fit;
      said = r.said;
      explained = r.explained;
      spent = r.spent;
      askable = ask;
      no_boot = no_boot;
    }) (grew w.history c) launches f

valued : (w : World) (c : Command) (k : Knowledge) → AreRowsOf w → IsAskable w.sent c → (c ≡ commands.Boot → ⊥)
    → (AreMade (outcome_of_command w.now c).changes → launch_of (next w.now c).0 k.name ≡ launch_of w.now k.name)
    → IsInformed w.history w.now w.sent (begun_on w.trail) k
    → Valued w k (outcome_of_command w.now c).changes (accepted_command c (outcome_of_command w.now c).changes)
valued w c k r ask no_boot launches f = by (outcome_of_command w.now c).changes refl
  where
    by : (cs : List Change) → (outcome_of_command w.now c).changes ≡ cs → Valued w k cs (accepted_command c cs)
    by [] e = unvalued w k f
    by (x ∷ xs) e =
        let made : AreMade (outcome_of_command w.now c).changes = subst AreMade (sym e) tt in
        subst (λ (cs : List Change). Valued w k cs (c ∷ [])) e (made_valued w c k r ask no_boot made (launches made) f)

kept_launches : (h : Holdings) (c : Command) (name : List ℕ) → is_launching c ≡ false
    → launch_of (next h c).0 name ≡ launch_of h name
kept_launches h c name e =
    ap (λ (ls : List Launch). option_map_or (λ (l : Launch). l.count) (lookup by_launch ls name) 0)
    (launches_stay h c e)

-- a restarter is informed after the changes and items of a command
abbrev ValuedAt : World → Command → Knowledge → Type 0
ValuedAt w c k =
    IsInformed (record w.history { past = accepted_command c (outcome_of_command w.now c).changes ++ w.history.past })
    (holdings_after_changes w.now (outcome_of_command w.now c).changes) w.sent
    (begun_on (noted (items_of w.now c (outcome_of_command w.now c).changes) w.trail)) k

valued_at : (w : World) (c : Command) (k : Knowledge) → AreRowsOf w → IsAskable w.sent c → (c ≡ commands.Boot → ⊥)
    → (AreMade (outcome_of_command w.now c).changes → launch_of (next w.now c).0 k.name ≡ launch_of w.now k.name)
    → IsInformed w.history w.now w.sent (begun_on w.trail) k → ValuedAt w c k
valued_at w c k r ask no_boot launches f =
    fewer_runs (record w.history { past = accepted_command c (outcome_of_command w.now c).changes ++ w.history.past })
    (holdings_after_changes w.now (outcome_of_command w.now c).changes) w.sent w.trail
    (items_of w.now c (outcome_of_command w.now c).changes) k (command_begins_none w c r)
    (valued w c k r ask no_boot launches f)

edit_parts : (c : Command) → is_edit c ≡ true → (is_launching c ≡ false) × (c ≡ commands.Boot → ⊥)
    × ((p : Proposal) → c ≡ commands.Propose p → ⊥)
edit_parts (commands.Edit x) e = (refl, λ f. absurd cc, λ p f. absurd cc)
edit_parts (commands.Propose p) e = absurd cc
edit_parts (commands.Launch name) e = absurd cc
edit_parts commands.Boot e = absurd cc

edit_behind : (w : World) (c : Command) → is_edit c ≡ true → AreRowsOf w → AreInformedOf w
    → Behind w (outcome_of_command w.now c).changes (accepted_command c (outcome_of_command w.now c).changes) []
    (items_of w.now c (outcome_of_command w.now c).changes) []
edit_behind w c e r f =
    let x = edit_parts c e in
    record {
      informed = each_later (IsInformed w.history w.now w.sent (begun_on w.trail)) (ValuedAt w c)
          (λ k p. valued_at w c k r (λ q is. absurd (x.2 q is)) x.1 (λ made. kept_launches w.now c k.name x.0) p)
          w.restarters f.informed;
      apart = f.apart;
    }

one_proposal : (p q : Proposal) → commands.Propose p ≡ commands.Propose q → p ≡ q
one_proposal p q e = cc

no_boot_proposed : (p : Proposal) → commands.Propose p ≡ commands.Boot → ⊥
no_boot_proposed p e = cc

no_boot_launched : (name : List ℕ) → commands.Launch name ≡ commands.Boot → ⊥
no_boot_launched name e = cc

no_proposal_launched : (name : List ℕ) (p : Proposal) → commands.Launch name ≡ commands.Propose p → ⊥
no_proposal_launched name p e = cc

answer_behind : (w : World) (p : Proposal) → WasProposed p w.sent → AreRowsOf w → AreInformedOf w
    → Behind w (outcome_of_command w.now (commands.Propose p)).changes
    (accepted_command (commands.Propose p) (outcome_of_command w.now (commands.Propose p)).changes)
    (answer_to p (outcome_of_command w.now (commands.Propose p)).reply)
    (items_of w.now (commands.Propose p) (outcome_of_command w.now (commands.Propose p)).changes) []
answer_behind w p was r f =
    let c : Command = commands.Propose p in
    record {
      informed = each_later (IsInformed w.history w.now w.sent (begun_on w.trail)) _
          (λ k x. informed_answer
          (record w.history { past = accepted_command c (outcome_of_command w.now c).changes ++ w.history.past })
          w.now w.sent (begun_on (noted (items_of w.now c (outcome_of_command w.now c).changes) w.trail)) k p
          (outcome_of_command w.now c)
          r.fit r.said r.explained was (all_answers w.now p)
          (valued_at w c k r (λ q e. subst (λ (z : Proposal). WasProposed z w.sent) (one_proposal p q e) was)
          (no_boot_proposed p) (λ made. kept_launches w.now c k.name refl) x)) w.restarters f.informed;
      apart = f.apart;
    }

-- ---- launches

-- a launch that is refused changes nothing
abbrev IsLaunch : Holdings → List ℕ → Outcome → Type 0
IsLaunch h name r = ((r.changes ≡ []) × (r.reply ≡ replies.Limit))
    ⊎ (AreMade r.changes × (r.reply ≡ replies.Made (launch_of h name + 1)))

launch_is : (h : Holdings) (name : List ℕ) → IsLaunch h name (outcome_of_command h (commands.Launch name))
unfolding outcome_of_command asked_launch
launch_is h name = by (nat_lt (launch_of h name) greatest) (nat_lt h.revision greatest)
  where
    by : (a b : Bool) → IsLaunch h name
        (if a then (if b
        then (record {
          changes = PutLaunch (next_launch h name) ∷ SetRevision (h.revision + 1) ∷ [];
          reply = replies.Made (launch_of h name + 1);
        }) else refusing replies.Limit) else refusing replies.Limit)
    by true true = inr (tt, refl)
    by true false = inl (refl, refl)
    by false b = inl (refl, refl)

other_launch : (h : Holdings) (name other : List ℕ) → (other ≡ name → ⊥)
    → AreMade (outcome_of_command h (commands.Launch name)).changes
    → launch_of (next h (commands.Launch name)).0 other ≡ launch_of h other
other_launch h name other apart made = by (is_eq (by_launch.cmp name other)) refl (launched_counts h name other made)
  where
    by : (b : Bool) → is_eq (by_launch.cmp name other) ≡ b
        → launch_of (next h (commands.Launch name)).0 other ≡ (if b then launch_of h name + 1 else launch_of h other)
        → launch_of (next h (commands.Launch name)).0 other ≡ launch_of h other
    by true e f = absurd (apart (sym (by_launch.exact name other (equal_from_test (by_launch.cmp name other) e))))
    by false e f = f

own_launch : (h : Holdings) (name : List ℕ) → AreMade (outcome_of_command h (commands.Launch name)).changes
    → launch_of (next h (commands.Launch name)).0 name ≡ launch_of h name + 1
own_launch h name made =
    by (is_eq (by_launch.cmp name name)) (ap is_eq (same_key by_launch name)) (launched_counts h name name made)
  where
    by : (b : Bool) → b ≡ true → launch_of (next h (commands.Launch name)).0 name
        ≡ (if b then launch_of h name + 1 else launch_of h name)
        → launch_of (next h (commands.Launch name)).0 name ≡ launch_of h name + 1
    by true e f = f
    by false e f = absurd cc

-- those that were launched before go on
olds_behind : (w : World) (name : List ℕ) (ks : List Knowledge) → AreRowsOf w
    → Each (λ (k : Knowledge). k.name ≡ name → ⊥) ks → Each (IsInformed w.history w.now w.sent (begun_on w.trail)) ks
    → Each (ValuedAt w (commands.Launch name)) ks
olds_behind w name [] r away a = tt
olds_behind w name (k ∷ ks) r away a = (
  valued_at w (commands.Launch name) k r (λ p e. absurd (no_proposal_launched name p e)) (no_boot_launched name)
      (λ made. other_launch w.now name k.name away.0 made) a.0,
  olds_behind w name ks r away.1 a.1,
)

new_behind : (w : World) (name : List ℕ) → AreRowsOf w
    → AreMade (outcome_of_command w.now (commands.Launch name)).changes
    → ValuedAt w (commands.Launch name) (at_first name (w.now.revision + 1) (launch_of w.now name + 1))
unfolding next
new_behind w name r made =
    let c : Command = commands.Launch name in
    informed_first
    (record w.history { past = accepted_command c (outcome_of_command w.now c).changes ++ w.history.past })
    (next w.now c).0 w.sent (begun_on (noted (items_of w.now c (outcome_of_command w.now c).changes) w.trail))
    name (w.now.revision + 1)
    (launch_of w.now name + 1) (sym (own_launch w.now name made)) (omega arith)
    (λ q was e. below q.launch (launch_of w.now name)
    (subst (λ (x : List ℕ). q.launch ≤ launch_of w.now x) e (proposal_is w.now w.sent q r.said was).launch))
  where
    below : (a b : ℕ) → a ≤ b → a < b + 1
    below a b le = omega arith

launch_behind : (w : World) (name : List ℕ) (o : Outcome) → o ≡ outcome_of_command w.now (commands.Launch name)
    → IsLaunch w.now name o → restarter w name ≡ None → AreRowsOf w → AreInformedOf w
    → Behind w (outcome_of_command w.now (commands.Launch name)).changes
    (accepted_command (commands.Launch name) (outcome_of_command w.now (commands.Launch name)).changes) []
    (items_of w.now (commands.Launch name) (outcome_of_command w.now (commands.Launch name)).changes)
    (launched_as w name (o.reply ∷ []))
launch_behind w name o e (inl x) none r f =
    subst (λ (z : CommandReply). Behind w (outcome_of_command w.now (commands.Launch name)).changes
    (accepted_command (commands.Launch name) (outcome_of_command w.now (commands.Launch name)).changes) []
    (items_of w.now (commands.Launch name) (outcome_of_command w.now (commands.Launch name)).changes)
    (launched_as w name (z ∷ [])))
    (sym x.1)
    (record {
      informed = olds_behind w name w.restarters r (none_named name w.restarters none) f.informed;
      apart = f.apart;
    })
launch_behind w name o e (inr x) none r f =
    subst (λ (z : CommandReply). Behind w (outcome_of_command w.now (commands.Launch name)).changes
    (accepted_command (commands.Launch name) (outcome_of_command w.now (commands.Launch name)).changes) []
    (items_of w.now (commands.Launch name) (outcome_of_command w.now (commands.Launch name)).changes)
    (launched_as w name (z ∷ [])))
    (sym x.1)
    (record {
      informed = each_both (ValuedAt w (commands.Launch name)) w.restarters
          (at_first name (w.now.revision + 1) (launch_of w.now name + 1) ∷ [])
          (olds_behind w name w.restarters r (none_named name w.restarters none) f.informed)
          (new_behind w name r (subst (λ (z : Outcome). AreMade z.changes) e x.0), tt);
      apart = launched_apart name (w.now.revision + 1) (launch_of w.now name + 1) w.restarters none f.apart;
    })

-- ---- events

items_are : (w : World) (cs : List Change) (past : List Command) (says : List Message) (items jtems : List Item)
    (bs : List Becomes) → items ≡ jtems → Behind w cs past says jtems bs → Behind w cs past says items bs
items_are w cs past says items jtems bs e x = subst (λ (z : List Item). Behind w cs past says z bs) (sym e) x

work_behind : (w : World) (k : Work) → AreRowsOf w → AreInformedOf w → IsKnowing w k
    → Behind w k.changes k.command k.messages k.items k.becomes
work_behind w k r f (steps l d s) =
    parts_are w k.changes [] k.command [] k.messages d.said k.items k.becomes
    (knows l d.change) s.changes s.command s.messages s.becomes
    (step_behind w l d k.items r f s.is_launched s.does s.begun)
work_behind w k r f (idles i b) =
    parts_are w k.changes [] k.command [] k.messages k.messages k.items k.becomes [] i.changes i.command refl b
    (idle_behind w k.messages k.items i.messages i.begun f)
work_behind w k r f (leaves name i b) =
    parts_are w k.changes [] k.command [] k.messages k.messages k.items k.becomes
    (becomes.Gone name ∷ []) i.changes i.command refl b
    (leaves_behind w name k.messages k.items i.messages i.begun f)
work_behind w k r f (edits c e x m b) =
    parts_are w k.changes (outcome_of_command w.now c).changes k.command
    (accepted_command c (outcome_of_command w.now c).changes) k.messages [] k.items k.becomes [] x.changes
    x.command m b
    (items_are w (outcome_of_command w.now c).changes
    (accepted_command c (outcome_of_command w.now c).changes) [] k.items
    (items_of w.now c (outcome_of_command w.now c).changes) [] x.items (edit_behind w c e r f))
work_behind w k r f (answers p was x m b) =
    let c : Command = commands.Propose p in
    parts_are w k.changes (outcome_of_command w.now c).changes k.command
    (accepted_command c (outcome_of_command w.now c).changes) k.messages
    (answer_to p (outcome_of_command w.now c).reply) k.items k.becomes [] x.changes x.command m b
    (items_are w (outcome_of_command w.now c).changes (accepted_command c (outcome_of_command w.now c).changes)
    (answer_to p (outcome_of_command w.now c).reply) k.items
    (items_of w.now c (outcome_of_command w.now c).changes) [] x.items (answer_behind w p was r f))
work_behind w k r f (begins name none x m b) =
    let c : Command = commands.Launch name in
    let bs : List Becomes = launched_as w name ((outcome_of_command w.now c).reply ∷ []) in
    parts_are w k.changes (outcome_of_command w.now c).changes k.command
    (accepted_command c (outcome_of_command w.now c).changes) k.messages [] k.items k.becomes bs x.changes
    x.command m b
    (items_are w (outcome_of_command w.now c).changes
    (accepted_command c (outcome_of_command w.now c).changes) [] k.items
    (items_of w.now c (outcome_of_command w.now c).changes) bs x.items
    (launch_behind w name (outcome_of_command w.now c) refl (launch_is w.now name) none r f))
work_behind w k r f (boots x m b) =
    parts_are w k.changes k.changes k.command k.command k.messages k.messages k.items k.becomes
    (becomes.NoneLeft ∷ []) refl refl refl b (record { informed = tt; apart = tt })

-- launched restarters are informed after each event
pub informed_event : (w : World) (e : Event) → AreRowsOf w → HasOrders w → AreInformedOf w → AreInformedOf (happens w e)
unfolding happens world_after
informed_event w e r h f = work_behind w (work_of_event w e) r f (knowing w e h)

-- ---- what they say

told_in : (w : World) (m : Message) (k : Knowledge) → HasOrders w → WasSaid m w.sent
    → restarter w (addressed m) ≡ Some k → ToldIn w k m
told_in w (messages.Rows name launch rows) k h s e =
    record { said = s; to = sym (restarter_found name w.restarters k e).1 }
told_in w (messages.Ack name launch serial i row) k h s e =
    record { said = s; to = sym (restarter_found name w.restarters k e).1 }
told_in w (messages.Nack name launch serial i why row) k h s e =
    record { said = s; to = sym (restarter_found name w.restarters k e).1 }
told_in w (messages.Order o) k h s e =
    record {
      said = s;
      to = order_given w.history w.now k o h.numbered h.newest
          (each_in (OrderSaid w.history) (messages.Order o) w.sent h.orders s)
          (sym (restarter_found o.restarter w.restarters k e).1);
    }
told_in w (messages.Join name launch) k h s e = record { said = s; to = tt }
told_in w (messages.Propose p) k h s e = record { said = s; to = tt }
told_in w messages.AskView k h s e = record { said = s; to = tt }
told_in w (messages.AskChange since) k h s e = record { said = s; to = tt }
told_in w (messages.View v) k h s e = record { said = s; to = tt }
told_in w (messages.Changes news) k h s e = record { said = s; to = tt }

-- the restarters of a world say what may be said
pub may_say : (w : World) → AreRowsOf w → HasOrders w → AreInformedOf w → MaySay w
may_say w r h f =
    record {
      hears = λ m k s e. may_does w.history w.now w.sent (begun_on w.trail) k (of_reply (reply_to_message k m)) r.said
          (heard_does k (ToldIn w k) m (told_in w m k h s e)) (is_informed (addressed m) k e);
      turns = λ name k e. may_does w.history w.now w.sent (begun_on w.trail) k
          (acted_doing w k 0 spawning.Made (own_tick k k.stage)) r.said (own_does w k (ToldIn w k) k.stage refl)
          (is_informed name k e);
      acts = λ name n k e. may_does w.history w.now w.sent (begun_on w.trail) k
          (acted_doing w k n spawning.Made (reply_to_tick k n)) r.said (ticked_does w k n spawning.Made (ToldIn w k))
          (is_informed name k e);
    }
  where
    is_informed : (name : List ℕ) (k : Knowledge) → restarter w name ≡ Some k
        → IsInformed w.history w.now w.sent (begun_on w.trail) k
    is_informed name k e =
        each_in (IsInformed w.history w.now w.sent (begun_on w.trail)) k w.restarters f.informed
        (restarter_found name w.restarters k e).0

-- ---- the runs that they begin

under_stays : (m : Method) (r s : Row) → Stays r s → run_under m s ≡ run_under m r
under_stays methods.Start r s t = ap (λ (x : Row). x.live) t.same
under_stays methods.Stop r s t = ap (λ (x : Row). x.side) t.same
under_stays methods.Refresh r s t = ap (λ (x : Row). x.side) t.same

owed_spent : (w : World) (l : Knowledge) (i : KnownInstance) (o : Owed) → AreRowsOf w
    → IsInformed w.history w.now w.sent (begun_on w.trail) l → IsAt l i → i.phase ≡ phases.Owes o
    → IsSpent w.now i.instance o.run
owed_spent w l i o r f at ph =
    record {
      known = (f.each i.instance i at.is_known).was.known;
      last = λ x there. subst (λ (z : Instance). o.run ≤ z.row.last) (some_same a.of x (sym a.there ∙ there))
          (last_of o.method stays_run);
    }
  where
    a : IsOwing w.history w.now (begun_on w.trail) l i.instance i.row o
    a = owing_at w.history w.now w.sent (begun_on w.trail) l i o f at ph

    stays : Stays i.row a.of.row
    stays = ((f.each i.instance i at.is_known).was.before a.of a.there).same (sym a.number)

    stays_run : run_under o.method a.of.row ≡ Some o.run
    stays_run = under_stays o.method i.row a.of.row stays ∙ a.run

    last_of : (m : Method) → run_under m a.of.row ≡ Some o.run → o.run ≤ a.of.row.last
    last_of methods.Start e = ((r.fit i.instance a.of a.there).runs.live o.run e).1
    last_of methods.Stop e = ((r.fit i.instance a.of a.there).runs.side o.run e).1
    last_of methods.Refresh e = ((r.fit i.instance a.of a.there).runs.side o.run e).1

begun_spent : (w : World) (l : Knowledge) (d : Doing) (n run : ℕ) → AreRowsOf w
    → IsInformed w.history w.now w.sent (begun_on w.trail) l → Does l (ToldIn w l) d → IsBegunIn n run d.begun
    → IsSpent w.now n run
begun_spent w l d n run r f does b = by does
  where
    none : (e : Doing) → d ≡ e → e.begun ≡ [] → IsSpent w.now n run
    none e same empty = absurd (subst (IsBegunIn n run) (ap (λ (x : Doing). x.begun) same ∙ empty) b)

    one : (i : KnownInstance) (o : Owed) → ((i.instance ≡ n) × (o.run ≡ run)) ⊎ ⊥ → IsAt l i → i.phase ≡ phases.Owes o
        → IsSpent w.now n run
    one i o (inl e) at ph =
        subst (λ (x : ℕ). IsSpent w.now x run) e.0 (subst (IsSpent w.now i.instance) e.1 (owed_spent w l i o r f at ph))
    one i o (inr e) at ph = absurd e

    shown : (e : Doing) → d ≡ e → IsBegunIn n run e.begun
    shown e same = subst (λ (x : Doing). IsBegunIn n run x.begun) same b

    by : Does l (ToldIn w l) d → IsSpent w.now n run
    by (rests x call e) = none _ e refl
    by (joins stage e) = none _ e refl
    by (repeats i p after at ph e) = none _ e refl
    by (proposes i step after stage why e) = none _ e refl
    by (granted i p after name row at ph t e) = none _ e refl
    by (refused i p after name why row at ph t differs e) = none _ e refl
    by (forgets i p after name why row at ph t reason e) = none _ e refl
    by (learns name rows stage t e) = none _ e refl
    by (lists ss stage e) = none _ e refl
    by (spawns i o c cookie at ph packs e) = one i o (shown _ e) at ph
    by (builds i o call at ph e) = one i o (shown _ e) at ph
    by (turns i method x z call at active is_end e) = none _ e refl

work_begins : (w : World) (k : Work) → AreRowsOf w → AreInformedOf w → IsKnowing w k → (n run : ℕ)
    → WasSpawned n run (noted k.items w.trail) → WasSpawned n run w.trail ⊎ IsSpent w.now n run
work_begins w k r f (steps l d s) n run x = by (s.begun n run x)
  where
    by : WasSpawned n run w.trail ⊎ IsBegunIn n run d.begun → WasSpawned n run w.trail ⊎ IsSpent w.now n run
    by (inl old) = inl old
    by (inr new) =
        inr (begun_spent w l d n run r
        (each_in (IsInformed w.history w.now w.sent (begun_on w.trail)) l w.restarters f.informed s.is_launched)
        s.does new)
work_begins w k r f (idles i b) n run x = inl (none_begun n run k.items w.trail i.begun x)
work_begins w k r f (leaves name i b) n run x = inl (none_begun n run k.items w.trail i.begun x)
work_begins w k r f (edits c e z m b) n run x =
    inl (none_begun n run k.items w.trail (subst NoneBegun (sym z.items) (command_begins_none w c r)) x)
work_begins w k r f (answers p was z m b) n run x =
    inl (none_begun n run k.items w.trail
    (subst NoneBegun (sym z.items) (command_begins_none w (commands.Propose p) r)) x)
work_begins w k r f (begins name none z m b) n run x =
    inl (none_begun n run k.items w.trail
    (subst NoneBegun (sym z.items) (command_begins_none w (commands.Launch name) r)) x)
work_begins w k r f (boots z m b) n run x =
    inl (none_begun n run k.items w.trail (subst NoneBegun (sym z.items) (command_begins_none w commands.Boot r)) x)

-- each run that an event begins was given before
pub begins_given : (w : World) (e : Event) → AreRowsOf w → HasOrders w → AreInformedOf w → BeginsTheGiven w e
begins_given w e r h f n run x = work_begins w (work_of_event w e) r f (knowing w e h) n run x

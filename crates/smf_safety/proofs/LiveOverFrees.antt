-- After each event the live run that a proposal would free is over, if the proposal can still be granted.
use Rattle.std.proofs.Common.{◌≡◌, ◌⊎◌, ◌+◌, ℕ, true, List, [], Option, Some, None, inl, inr, refl, sym, ap, ◌∙◌, subst, arith}
use Rattle.std.specs.Prelude.{IsSome}
use Rattle.smf_state.specs.declared.row.Row.{Row}
use Rattle.smf_state.specs.declared.step.Proposal.{Proposal}
use Rattle.smf_state.specs.declared.step.Step.{Step}
use Rattle.smf_state.specs.declared.step.Step.TheVariants.{Move, Start, Stop, Refresh, End, Note}
use Rattle.smf_model.specs.declared.change.Change.{Change}
use Rattle.smf_model.specs.declared.command.CommandReply.{CommandReply}
use Rattle.smf_model.specs.declared.command.CommandReply.TheVariants as replies
use Rattle.smf_model.specs.Contents.{Holdings}
use Rattle.smf_model.specs.Laws.{Stays}
use Rattle.smf_model.specs.Look.{holdings_after_changes}
use Rattle.smf_wire.specs.declared.message.Message.{Message}
use Rattle.smf_wire.specs.declared.message.Message.TheVariants as messages
use Rattle.smf_restarter.specs.declared.known.After.{After}
use Rattle.smf_restarter.specs.declared.known.KnownInstance.{KnownInstance}
use Rattle.smf_restarter.specs.declared.known.KnownRun.{KnownRun}
use Rattle.smf_restarter.specs.declared.known.Stage.TheVariants as stages
use Rattle.smf_restarter.specs.Knowledge.{Knowledge}
use Rattle.smf_restarter.specs.Orders.{proposal}
use Rattle.smf_restarter.specs.Runs.{is_empty, known_run, run_at}
use Rattle.smf_world.specs.declared.event.Event.{Event}
use Rattle.smf_world.specs.declared.item.Item.{Item}
use Rattle.smf_world.specs.declared.work.Work.{Work}
use Rattle.smf_world.specs.Happens.{world_after, happens}
use Rattle.smf_world.specs.Worked.{answer_to, work_of_event}
use Rattle.smf_world.specs.World.{World}
use Rattle.smf_safety.proofs.KnowClauses.{IsInformed}
use Rattle.smf_safety.proofs.KnowDone.{awaited_at}
use Rattle.smf_safety.proofs.KnowEvery.{BegunBy, IsAside, IsBegunIn}
use Rattle.smf_safety.proofs.KnowFrees.{freed_run, proposed_frees}
use Rattle.smf_safety.proofs.KnowProposed.{IsProposable, proposable}
use Rattle.smf_safety.proofs.KnowStarts.{Stands, has_orders, owed_fresh, stands_event}
use Rattle.smf_safety.proofs.KnowSteps.{Does, Doing, Proposes, builds, forgets, granted, joins, learns, lists, proposes, refused, repeats, rests, spawns, turns}
use Rattle.smf_safety.proofs.KnowWalked.{IsKnowing, ToldIn, answers, begins, begun_on, boots, edits, idles, knowing, leaves, steps}
use Rattle.smf_safety.proofs.LiveClauses.{AllFreeTheOver, FreesTheOver, Lives, frees}
use Rattle.smf_world.proofs.LiveEach.{each_in, each_later, each_reversed}
use Rattle.smf_safety.proofs.LiveEvents.{goes_on}
use Rattle.smf_safety.proofs.LiveKnown.{GoesOn, empty_is_dead}
use Rattle.smf_world.proofs.LiveLists.{Each, IsIn}
use Rattle.smf_safety.proofs.LiveOverOpen.{FreesTheDead, all_free_over, open_owner, over_dead}
use Rattle.smf_safety.proofs.LiveOverRows.{free_at, free_olds}
use Rattle.smf_safety.proofs.LiveStarts.{lives_spawned}
use Rattle.smf_safety.proofs.LiveTrue.{KnowsWell}
use Rattle.smf_world.proofs.TrailItems.{noted}
use Rattle.smf_world.proofs.RowClauses.{IsOpen, fits}

-- ---- a proposal that is new

fits_stays : (r s : Row) (p : Step) → Stays r s → frees p ≡ true → fits s p ≡ fits r p
fits_stays r s (Move to) st e = absurd cc
fits_stays r s (Start run snapshot duration ignore base) st e = absurd cc
fits_stays r s (Stop to cause run) st e = absurd cc
fits_stays r s (Refresh run) st e = absurd cc
fits_stays r s (End to keep failed cause) st e = ap (λ (x : Row). fits x (End to keep failed cause)) st.same
fits_stays r s (Note bits keep) st e = ap (λ (x : Row). fits x (Note bits keep)) st.same

same_number : (a b : ℕ) → a + 1 ≡ b + 1 → a ≡ b
same_number a b e = omega arith

known_or_not : (k : Knowledge) (n run : ℕ) → IsSome (run_at k n run) → (r : KnownRun) × (run_at k n run ≡ Some r)
known_or_not k n run some = by (run_at k n run) refl some
  where
    by : (o : Option KnownRun) → run_at k n run ≡ o → IsSome o → (r : KnownRun) × (run_at k n run ≡ Some r)
    by None e f = absurd cc
    by (Some r) e f = (r, e)

-- who proposes what would free the live run knows that this has ended
new_dead : (w : World) (l : Knowledge) (i : KnownInstance) (step : Step) (after : After) → Stands w
    → IsIn l w.restarters → KnowsWell w.now w.trail l → l.stage ≡ stages.Up → Proposes l (ToldIn w l) i step after
    → (o : IsOpen w.now (proposal l i step)) (run : ℕ) → frees step ≡ true → o.of.row.live ≡ Some run
    → Lives i.instance run w.trail → ⊥
new_dead w l i step after s there knows up why o run free live lives =
    let known : (r : KnownRun) × (run_at l i.instance run ≡ Some r) =
    known_or_not l i.instance run
    (knows.1 up i.instance run o.of o.there (open_owner w.now (proposal l i step) o run s.rows.fit live) lives) in
    empty_is_dead w.trail l knows.0 i.instance run known.0 known.1
    (freed_run l i.instance run i.row.live known.0 ended held known.1) lives
  where
    f : IsInformed w.history w.now w.sent (begun_on w.trail) l
    f = each_in (IsInformed w.history w.now w.sent (begun_on w.trail)) l w.restarters s.informed.informed there

    p : IsProposable w.history w.now l i step after
    p = proposable w.history w.now w.sent (begun_on w.trail) l i step after s.rows.said f why

    stays : Stays i.row o.of.row
    stays = (p.was.before o.of o.there).same (same_number i.row.number o.of.row.number o.number)

    held : i.row.live ≡ Some run
    held = sym (ap (λ (r : Row). r.live) stays.same) ∙ live

    ended : is_empty (known_run l i.instance i.row.live) ≡ true
    ended = proposed_frees w.history w.now w.sent (begun_on w.trail) l (ToldIn w l) i step after f why free
        (sym (fits_stays i.row o.of.row step stays free) ∙ o.fits)

-- ---- what a step says

step_dead : (w : World) (l : Knowledge) (d : Doing) (t : List Item) → Stands w → IsIn l w.restarters
    → KnowsWell w.now w.trail l → Does l (ToldIn w l) d
    → ((n run : ℕ) → d.begun ≡ [] → Lives n run t → Lives n run w.trail)
    → Each (FreesTheDead w.now t) w.sent → Each (FreesTheDead w.now t) d.said
step_dead w l d t s there knows does before olds = by does
  where
    made_as : (e : Doing) → d ≡ e → Each (FreesTheDead w.now t) e.said → Each (FreesTheDead w.now t) d.said
    made_as e same a = subst (λ (x : Doing). Each (FreesTheDead w.now t) x.said) (sym same) a

    none : (e : Doing) → d ≡ e → e.said ≡ [] → Each (FreesTheDead w.now t) d.said
    none e same empty = made_as e same (subst (Each (FreesTheDead w.now t)) (sym empty) tt)

    f : IsInformed w.history w.now w.sent (begun_on w.trail) l
    f = each_in (IsInformed w.history w.now w.sent (begun_on w.trail)) l w.restarters s.informed.informed there

    by : Does l (ToldIn w l) d → Each (FreesTheDead w.now t) d.said
    by (rests run call e) = none _ e refl
    by (joins stage e) = made_as _ e (tt, tt)
    by (repeats i p after at ph e) =
        made_as _ e (
          each_in (FreesTheDead w.now t) (messages.Propose p) w.sent olds
              (awaited_at w.history w.now w.sent (begun_on w.trail) l i p after f at ph).said,
          tt,
        )
    by (proposes i step after stage why e) =
        made_as _ e (
          λ o run free live lives. new_dead w l i step after s there knows stage why o run free live
              (before i.instance run (ap (λ (x : Doing). x.begun) e) lives),
          tt,
        )
    by (granted i p after name row at ph told e) = none _ e refl
    by (refused i p after name why row at ph told apart e) = none _ e refl
    by (forgets i p after name why row at ph told reason e) = none _ e refl
    by (learns name rows stage told e) = none _ e refl
    by (lists ss stage e) = none _ e refl
    by (spawns i o c cookie at ph packs e) = none _ e refl
    by (builds i o call at ph e) = none _ e refl
    by (turns i method x run call at active is_end e) = none _ e refl

-- ---- what an event says

aside_dead : (h : Holdings) (t : List Item) (m : Message) → IsAside m → FreesTheDead h t m
aside_dead h t (messages.Propose q) a = absurd a
aside_dead h t (messages.Ack name launch serial n row) a = absurd a
aside_dead h t (messages.Nack name launch serial n why row) a = absurd a
aside_dead h t (messages.Join name launch) a = tt
aside_dead h t (messages.Rows name launch rows) a = tt
aside_dead h t messages.AskView a = tt
aside_dead h t (messages.AskChange since) a = tt
aside_dead h t (messages.View v) a = tt
aside_dead h t (messages.Changes news) a = tt
aside_dead h t (messages.Order o) a = tt

answer_dead : (h : Holdings) (t : List Item) (p : Proposal) (r : CommandReply) → Each (FreesTheDead h t) (answer_to p r)
answer_dead h t p (replies.Granted row) = (tt, tt)
answer_dead h t p (replies.Stale why row) = (tt, tt)
answer_dead h t p _ = tt

abbrev DeadBehind : World → List Item → List Change → List Message → Type 0
DeadBehind w t cs ms = Each (FreesTheDead (holdings_after_changes w.now cs) t) ms

unmade : (w : World) (t : List Item) (ms : List Message) → Each (FreesTheDead w.now t) ms → DeadBehind w t [] ms
unfolding holdings_after_changes
unmade w t ms a = a

before_by : (t u : List Item) (k : List _) (n run : ℕ) → GoesOn t u → BegunBy (begun_on t) k (begun_on u) → k ≡ []
    → Lives n run u → Lives n run t
before_by t u k n run goes begun none lives = by (begun n run (lives_spawned n run u lives))
  where
    by : begun_on t n run ⊎ IsBegunIn n run k → Lives n run t
    by (inl x) = goes.lives n run x lives
    by (inr x) = absurd (subst (IsBegunIn n run) none x)

silent : (w : World) (t : List Item) (cs : List Change) (ms : List Message) → ms ≡ [] → DeadBehind w t cs ms
silent w t cs ms e = subst (DeadBehind w t cs) (sym e) tt

said_dead : (w : World) (k : Work) → IsKnowing w k → Stands w → Each (KnowsWell w.now w.trail) w.restarters
    → GoesOn w.trail (noted k.items w.trail) → Each (FreesTheDead w.now (noted k.items w.trail)) w.sent
    → DeadBehind w (noted k.items w.trail) k.changes k.messages
said_dead w k (steps l d x) s knows goes olds =
    let t : List Item = noted k.items w.trail in
    subst (λ (cs : List Change). DeadBehind w t cs k.messages) (sym x.changes)
    (subst (DeadBehind w t []) (sym x.messages)
    (unmade w t d.said
    (step_dead w l d t s x.is_launched (each_in (KnowsWell w.now w.trail) l w.restarters knows x.is_launched)
    x.does (λ n run none lives. before_by w.trail t d.begun n run goes x.begun none lives) olds)))
said_dead w k (idles i b) s knows goes olds =
    each_later IsAside (FreesTheDead (holdings_after_changes w.now k.changes) (noted k.items w.trail))
    (λ m a. aside_dead (holdings_after_changes w.now k.changes) (noted k.items w.trail) m a) k.messages i.messages
said_dead w k (leaves name i b) s knows goes olds =
    each_later IsAside (FreesTheDead (holdings_after_changes w.now k.changes) (noted k.items w.trail))
    (λ m a. aside_dead (holdings_after_changes w.now k.changes) (noted k.items w.trail) m a) k.messages i.messages
said_dead w k (edits c e x m b) s knows goes olds = silent w (noted k.items w.trail) k.changes k.messages m
said_dead w k (answers p was x m b) s knows goes olds =
    subst (DeadBehind w (noted k.items w.trail) k.changes) (sym m)
    (answer_dead (holdings_after_changes w.now k.changes) (noted k.items w.trail) p _)
said_dead w k (begins name none x m b) s knows goes olds = silent w (noted k.items w.trail) k.changes k.messages m
said_dead w k (boots x m b) s knows goes olds = silent w (noted k.items w.trail) k.changes k.messages m

-- ---- an event

olds_dead : (h : Holdings) (ks : List Knowledge) (t : List Item) (ms : List Message) → AllFreeTheOver h ks t ms
    → Each (FreesTheDead h t) ms
olds_dead h ks t ms over =
    each_later (FreesTheOver h ks t) (FreesTheDead h t)
    (λ m x. over_dead h ks t t m (λ n run o lives. o.dead lives) x) ms over

news_dead : (w : World) (e : Event) → Stands w → AllFreeTheOver w.now w.restarters w.trail w.sent
    → Each (KnowsWell w.now w.trail) w.restarters
    → Each (FreesTheDead (happens w e).now (happens w e).trail) (work_of_event w e).messages
unfolding happens world_after
news_dead w e s over knows =
    said_dead w (work_of_event w e) (knowing w e (has_orders w s)) s knows (goes_on w e (owed_fresh w s))
    (olds_dead w.now w.restarters (noted (work_of_event w e).items w.trail) w.sent (free_at w e s.informed over))

all_dead : (w : World) (e : Event)
    → Each (FreesTheDead (happens w e).now (happens w e).trail) (work_of_event w e).messages
    → Each (FreesTheDead (happens w e).now (happens w e).trail) w.sent
    → Each (FreesTheDead (happens w e).now (happens w e).trail) (happens w e).sent
unfolding happens world_after
all_dead w e news olds =
    each_reversed (FreesTheDead (happens w e).now (happens w e).trail) (work_of_event w e).messages w.sent news olds

-- the run that a proposal would free is over after each event
pub frees_event : (w : World) (e : Event) → Stands w → AllFreeTheOver w.now w.restarters w.trail w.sent
    → Each (KnowsWell w.now w.trail) w.restarters
    → AllFreeTheOver (happens w e).now (happens w e).restarters (happens w e).trail (happens w e).sent
frees_event w e s over knows =
    let v : World = happens w e in
    let t : Stands v = stands_event w e s in
    all_free_over v.history v.now v.sent v.trail v.restarters t.informed.informed t.rows.fit
    (all_dead w e (news_dead w e s over knows) (olds_dead v.now w.restarters v.trail w.sent (free_olds w e s over)))

-- The turns of a restarter for instances at rest may be left out, since they change nothing. An instance that was at
-- rest at the first of these turns is at rest at its own.
use Rattle.std.proofs.Common.{◌≡◌, inr, ℕ, List, [], ◌∷◌, ◌++◌, Bool, true, false, cond, find, map, not, Option, Some, None, Result, Ok, Err, IfErr, OnOk, if◌then◌else◌, refl, ap, sym, subst, ◌∙◌}
use Rattle.std.specs.Prelude.{filter, option_map}
use Rattle.std.specs.Ordering.{nat_cmp}
use Rattle.std.specs.declared.cmp.Ordering.TheVariants.{Less, Equal}
use Rattle.smf_fmri.specs.ByKey.{IsBelowFirst, Rises, lookup}
use Rattle.smf_fmri.proofs.Lookups.{same_key}
use Rattle.smf_fmri.proofs.KeyOrder.{first_below}
use Rattle.smf_edge.specs.Answers.{Seen}
use Rattle.smf_model.specs.declared.journal.RepoFault.{RepoFault}
use Rattle.smf_restarter.specs.declared.known.KnownInstance.{KnownInstance}
use Rattle.smf_restarter.specs.declared.reply.Answer.{Answer}
use Rattle.smf_restarter.specs.declared.reply.Call.{Call}
use Rattle.smf_restarter.specs.declared.reply.Call.TheVariants as calls
use Rattle.smf_restarter.specs.declared.reply.KnowledgeChange.{KnowledgeChange}
use Rattle.smf_restarter.specs.Changes.{knowledge_after}
use Rattle.smf_restarter.specs.Knowledge.{Knowledge, by_instance}
use Rattle.smf_restarter.specs.Left.{IsAtRest, IsNoList, LeavesOthers}
use Rattle.smf_restarter.specs.Ticks.{rests, reply_to_tick}
use Rattle.smf_restarter.specs.Watched.{IsOrdered, restless}
use Rattle.smf_restarter.proofs.OtherInstances.{answered_leaves, rest_ticked, ticked_leaves, ticked_no_list}
use Rattle.smf_machine.specs.Children.{happens_if}
use Rattle.smf_machine.specs.declared.requests.MethodRequest.{MethodRequest}
use Rattle.smf_machine.specs.declared.requests.MethodRequest.TheVariants.{Nothing, Unnumbered, Spawn, Kill}
use Rattle.smf_machine.specs.Requests.{request_of_turn}
use Rattle.smf_machine.specs.Runners.{Rules, TickedBy}
use Rattle.smf_node.specs.declared.fault.NodeFault.{NodeFault}
use Rattle.smf_node.specs.Partly.{DeedFails, DeedsFail, TurnFails}
use Rattle.smf_node.specs.Rests.{IsInOrder, IsTurnInOrder, numbers_restless, restless_deeds}
use Rattle.smf_node.specs.Rounds.{AllDone, AreDone, Course, HasGone, IsEntered, IsTaken, TicksIf}
use Rattle.smf_node.proofs.IdleTurns.{nothing_done, rests_by, rests_ticks}
use Rattle.smf_world.specs.declared.event.Event.TheVariants as events
use Rattle.smf_world.specs.declared.event.SpawnAnswer.{SpawnAnswer}
use Rattle.smf_world.specs.declared.event.SpawnAnswer.TheVariants as spawns
use Rattle.smf_world.specs.declared.schedule.Deed.{Deed}
use Rattle.smf_world.specs.declared.schedule.Deed.TheVariants as deeds
use Rattle.smf_world.specs.declared.schedule.Turn.{Turn}
use Rattle.smf_world.specs.declared.schedule.Turn.TheVariants as turns
use Rattle.smf_world.specs.Happens.{world_after, happens}
use Rattle.smf_world.specs.Schedule.{deeds_of, numbers_known, refuses}
use Rattle.smf_world.specs.Worked.{work_of_turn, answer_of, change_after, is_named, restarter, ticked_for, work_of_event}
use Rattle.smf_world.specs.World.{World}

-- ---- what a restarter knows after the turn for an instance

find_kept : (name : List ℕ) (f : Knowledge → Knowledge) (ks : List Knowledge)
    → ((k : Knowledge) → (f k).name ≡ k.name) → find (is_named name) (map f ks) ≡ option_map f (find (is_named name) ks)
find_kept name f [] same = refl
find_kept name f (k ∷ ks) same =
    ap (λ (n : List ℕ). cond (is_named name (record k { name = n })) (Some (f k)) (find (is_named name) (map f ks)))
    (same k) ∙ by (is_named name k) (find_kept name f ks same)
  where
    by : (b : Bool) → find (is_named name) (map f ks) ≡ option_map f (find (is_named name) ks)
        → cond b (Some (f k)) (find (is_named name) (map f ks))
        ≡ option_map f (cond b (Some k) (find (is_named name) ks))
    by true rest = refl
    by false rest = rest

abbrev learning : List ℕ → KnowledgeChange → Knowledge → Knowledge
learning name c k = if is_named name k then knowledge_after k c else k

learning_name : (name : List ℕ) (c : KnowledgeChange) (k : Knowledge) → (learning name c k).name ≡ k.name
unfolding knowledge_after
learning_name name c k = by (is_named name k)
  where
    by : (b : Bool) → (if b then knowledge_after k c else k).name ≡ k.name
    by true = refl
    by false = refl

change_left : (w : World) (k : Knowledge) (n : ℕ) (a : Answer) (call : Call) → IsNoList call
    → LeavesOthers k n (change_after w k n (reply_to_tick k n) call a)
change_left w k n a calls.Nothing p = ticked_leaves k n
change_left w k n a calls.List p = absurd p
change_left w k n a (calls.Adopt c) p = answered_leaves k n a
change_left w k n a (calls.Spawn cookie terms) p = answered_leaves k n a
change_left w k n a (calls.Kill c) p = ticked_leaves k n

-- ---- an instance that is at rest stays so

abbrev StaysAtRest : Option Knowledge → ℕ → Type 0
StaysAtRest o m = (k : Knowledge) → o ≡ Some k → IsOrdered k × IsAtRest k m

learned_rests : (k : Knowledge) (n m : ℕ) (c : KnowledgeChange) → LeavesOthers k n c → (n ≡ m → ⊥)
    → IsOrdered k × IsAtRest k m → StaysAtRest (Some (learning k.name c k)) m
learned_rests k n m c leaves other h j e = by (is_named k.name k) cc
  where
    by : (b : Bool) → (if b then knowledge_after k c else k) ≡ j → IsOrdered j × IsAtRest j m
    by true same = subst (λ (l : Knowledge). IsOrdered l × IsAtRest l m) same (leaves m other h.0 h.1)
    by false same = subst (λ (l : Knowledge). IsOrdered l × IsAtRest l m) same h

done_rests : (w : World) (name : List ℕ) (n m : ℕ) (a : SpawnAnswer) (o : Option Knowledge) → restarter w name ≡ o
    → (n ≡ m → ⊥) → StaysAtRest o m → StaysAtRest (restarter (world_after w (ticked_for w n a o)) name) m
unfolding world_after work_of_turn
done_rests w name n m a None is other h =
    subst (λ (v : World). StaysAtRest (restarter v name) m) (sym (nothing_done w))
    (subst (λ (p : Option Knowledge). StaysAtRest p m) (sym is) h)
done_rests w name n m a (Some k) is other h =
    let answer : Answer = answer_of w.table k.actor a (reply_to_tick k n).call in
    let change : KnowledgeChange = change_after w k n (reply_to_tick k n) (reply_to_tick k n).call answer in
    let there : restarter (world_after w (ticked_for w n a (Some k))) name ≡ Some (learning k.name change k) =
    find_kept name (learning k.name change) w.restarters (learning_name k.name change)
    ∙ ap (λ (p : Option Knowledge). option_map (learning k.name change) p) is in
    subst (λ (p : Option Knowledge). StaysAtRest p m) (sym there)
    (learned_rests k n m change (change_left w k n answer (reply_to_tick k n).call (ticked_no_list k n)) other
    (h k refl))

abbrev RestsIn : World → List ℕ → ℕ → Type 0
RestsIn w name m = StaysAtRest (restarter w name) m

tick_rests : (w : World) (name : List ℕ) (n m : ℕ) (a : SpawnAnswer) → (n ≡ m → ⊥) → RestsIn w name m
    → RestsIn (happens w (events.Tick name n a)) name m
unfolding happens work_of_event
tick_rests w name n m a other h = done_rests w name n m a (restarter w name) refl other h

asked_rests : (r : Rules) (ask : MethodRequest) (name : List ℕ) (n m : ℕ) (w v : World) (s t : Seen) → (n ≡ m → ⊥)
    → TickedBy r ask name n w s v t → RestsIn w name m → RestsIn v name m
asked_rests r Nothing name n m w v s t other h g =
    subst (λ (x : World). RestsIn x name m) (sym h.0) (tick_rests w name n m spawns.Made other g)
asked_rests r Unnumbered name n m w v s t other h g =
    subst (λ (x : World). RestsIn x name m) (sym h.0) (tick_rests w name n m spawns.Refused other g)
asked_rests r (Spawn start) name n m w v s t other h g =
    subst (λ (x : World). RestsIn x name m) (sym h.2) (tick_rests w name n m h.0 other g)
asked_rests r (Kill id) name n m w v s t other h g = subst (λ (x : World). RestsIn x name m) (sym h.2) (by h.0)
  where
    by : (did : Bool) → RestsIn (happens_if did w (events.Tick name n spawns.Made)) name m
    by true = tick_rests w name n m spawns.Made other g
    by false = g

gone_if : (r : Rules) (b : Bool) (name : List ℕ) (n m : ℕ) (c d : Course) → (n ≡ m → ⊥) → TicksIf b r name n c d
    → RestsIn c.progress.world name m → RestsIn d.progress.world name m
gone_if r true name n m c d other h g =
    subst (λ (x : Course). RestsIn x.progress.world name m) (sym h)
    (tick_rests c.progress.world name n m spawns.Refused other g)
gone_if r false name n m c d other h g =
    asked_rests r (request_of_turn c.progress.world name n) name n m c.progress.world d.progress.world c.seen d.seen
    other h.0 g

-- ---- the turns of a restarter that are left out

abbrev ticks : List ℕ → List KnownInstance → List Deed
ticks name is = map (λ n. deeds.Tick name n) (map (λ i. i.instance) is)

abbrev left_of : (KnownInstance → Bool) → List KnownInstance → List KnownInstance
left_of p is = filter (λ i. not (p i)) is

-- those that pass are at rest
abbrev TheseRest : World → List ℕ → (KnownInstance → Bool) → List KnownInstance → Type 0
TheseRest w name p [] = Unit {0}
TheseRest w name p (i ∷ is) = (p i ≡ true → RestsIn w name i.instance) × TheseRest w name p is

apart_below : (a b : ℕ) → nat_cmp a b ≡ Less → a ≡ b → ⊥
apart_below a b e same =
    let itself : nat_cmp a a ≡ Less = subst (λ (x : ℕ). nat_cmp a x ≡ Less) (sym same) e in
    let equal : nat_cmp a a ≡ Equal = same_key by_instance a in absurd cc

these_stay : (r : Rules) (name : List ℕ) (n : ℕ) (p : KnownInstance → Bool) (is : List KnownInstance) (c d : Course)
    → IsBelowFirst by_instance n is → Rises by_instance is → HasGone r (deeds.Tick name n) c d
    → TheseRest c.progress.world name p is → TheseRest d.progress.world name p is
these_stay r name n p [] c d below rises gone h = tt
these_stay r name n p (i ∷ is) c d below rises gone h = (
  λ e. gone_if r (refuses c.progress name n) name n i.instance c d (apart_below n i.instance below) gone (h.0 e),
  these_stay r name n p is c d (first_below by_instance n i.instance is below rises.0) rises.1 gone h.1,
)

skipped : (r : Rules) (name : List ℕ) (n : ℕ) (c : Course) → RestsIn c.progress.world name n
    → HasGone r (deeds.Tick name n) c c
skipped r name n c h = rests_ticks r c name n (rests_by c.progress.world name n (λ k e. rest_ticked k n (h k e).1))

skip_done : (r : Rules) (name : List ℕ) (p : KnownInstance → Bool) (is : List KnownInstance) (c d : Course)
    → Rises by_instance is → TheseRest c.progress.world name p is → AreDone r (ticks name (left_of p is)) c d
    → AreDone r (ticks name is) c d
skip_done r name p [] c d rises h done_all = done_all
skip_done r name p (i ∷ is) c d rises h done_all =
    by (p i) refl (λ m. skip_done r name p is m d rises.1) done_all
  where
    by : (b : Bool) → p i ≡ b
        → ((m : Course) → TheseRest m.progress.world name p is → AreDone r (ticks name (left_of p is)) m d
        → AreDone r (ticks name is) m d)
        → AreDone r (ticks name (cond (not b) (i ∷ left_of p is) (left_of p is))) c d
        → AreDone r (ticks name (i ∷ is)) c d
    by true e more all = (c, skipped r name i.instance c (h.0 e), more c h.1 all)
    by false e more all =
        (all.0, all.1, more all.0 (these_stay r name i.instance p is c all.0 rises.0 rises.1 all.1 h.1) all.2)

abbrev Fails : Type 1
Fails = RepoFault → Type 0

one_more : (r : Rules) (fails : Fails) (x : Deed) (xs : List Deed) (c m d : Course) (e : NodeFault) → HasGone r x c m
    → DeedsFail r fails xs m d e → DeedsFail r fails (x ∷ xs) c d e
one_more r fails x xs c m d e gone u =
    record {
      first = x ∷ u.first;
      failed = u.failed;
      rest = u.rest;
      reached = u.reached;
      whole = ap (λ (ys : List Deed). x ∷ ys) u.whole;
      done = (m, gone, u.done);
      fault = u.fault;
    }

head_is : (x y : Deed) (xs ys : List Deed) → (x ∷ xs) ≡ (y ∷ ys) → (x ≡ y) × (xs ≡ ys)
head_is x y xs ys e = (cc, cc)

-- a later turn fails, however many of those before it are left out
abbrev FailsLater : Rules → Fails → List ℕ → (KnownInstance → Bool) → List KnownInstance → Deed → List Deed → Course
    → Course → NodeFault → Type 0
FailsLater r fails name p is x rest m d e =
    (ys : List Deed) (n : Course) → TheseRest n.progress.world name p is → ticks name (left_of p is) ≡ ys ++ x ∷ rest
    → AllDone (HasGone r) ys n m → DeedFails fails x m d e → DeedsFail r fails (ticks name is) n d e

skip_failed : (r : Rules) (fails : Fails) (name : List ℕ) (p : KnownInstance → Bool) (is : List KnownInstance)
    (first : List Deed) (x : Deed) (rest : List Deed) (c m d : Course) (e : NodeFault) → Rises by_instance is
    → TheseRest c.progress.world name p is
    → ticks name (left_of p is) ≡ first ++ x ∷ rest → AllDone (HasGone r) first c m → DeedFails fails x m d e
    → DeedsFail r fails (ticks name is) c d e
skip_failed r fails name p [] [] x rest c m d e rises h whole done_first fault = absurd cc
skip_failed r fails name p [] (y ∷ ys) x rest c m d e rises h whole done_first fault = absurd cc
skip_failed r fails name p (i ∷ is) first x rest c m d e rises h whole done_first fault =
    by (p i) refl (λ ys n. skip_failed r fails name p is ys x rest n m d e rises.1) whole
  where
    here : FailsLater r fails name p is x rest m d e → (ys : List Deed)
        → (deeds.Tick name i.instance ∷ ticks name (left_of p is)) ≡ ys ++ x ∷ rest → AllDone (HasGone r) ys c m
        → DeedsFail r fails (ticks name (i ∷ is)) c d e
    here more [] f g =
        record {
          first = [];
          failed = x;
          rest = ticks name is;
          reached = m;
          whole = ap (λ (y : Deed). y ∷ ticks name is)
              (head_is (deeds.Tick name i.instance) x (ticks name (left_of p is)) rest f).0;
          done = g;
          fault = fault;
        }
    here more (y ∷ ys) f g =
        let two = head_is (deeds.Tick name i.instance) y (ticks name (left_of p is)) (ys ++ x ∷ rest) f in
        let gone : HasGone r (deeds.Tick name i.instance) c g.0 =
        subst (λ (z : Deed). HasGone r z c g.0) (sym two.0) g.1 in
        one_more r fails (deeds.Tick name i.instance) (ticks name is) c g.0 d e gone
        (more ys g.0 (these_stay r name i.instance p is c g.0 rises.0 rises.1 gone h.1) two.1 g.2 fault)

    by : (b : Bool) → p i ≡ b → FailsLater r fails name p is x rest m d e
        → ticks name (cond (not b) (i ∷ left_of p is) (left_of p is)) ≡ first ++ x ∷ rest
        → DeedsFail r fails (ticks name (i ∷ is)) c d e
    by true f more g =
        one_more r fails (deeds.Tick name i.instance) (ticks name is) c c d e (skipped r name i.instance c (h.0 f))
        (more first c h.1 g done_first fault)
    by false f more g = here more first g done_first

-- ---- which are at rest when the turns begin

abbrev AllFound : List KnownInstance → List KnownInstance → Type 0
AllFound all [] = Unit {0}
AllFound all (i ∷ is) = (lookup by_instance all i.instance ≡ Some i) × AllFound all is

found_past : (x : KnownInstance) (all is : List KnownInstance) → IsBelowFirst by_instance x.instance is
    → Rises by_instance is → AllFound all is → AllFound (x ∷ all) is
found_past x all [] below rises h = tt
found_past x all (i ∷ is) below rises h =
    (rw below h.0, found_past x all is (first_below by_instance x.instance i.instance is below rises.0) rises.1 h.1)

all_found : (is : List KnownInstance) → Rises by_instance is → AllFound is is
all_found [] rises = tt
all_found (i ∷ is) rises =
    (rw (same_key by_instance i.instance) refl, found_past i is is rises.0 rises.1 (all_found is rises.1))

known_rest : (w : World) (name : List ℕ) (k : Knowledge) (is : List KnownInstance) → restarter w name ≡ Some k
    → IsOrdered k → AllFound k.instances is → TheseRest w name (rests k) is
known_rest w name k [] there ordered h = tt
known_rest w name k (i ∷ is) there ordered h = (here, known_rest w name k is there ordered h.1)
  where
    rests_here : rests k i ≡ true → IsAtRest k i.instance
    rests_here e j f = let same : i ≡ j = cc in subst (λ (x : KnownInstance). rests k x ≡ true) same e

    here : rests k i ≡ true → RestsIn w name i.instance
    here e l f = let same : k ≡ l = cc in
        subst (λ (x : Knowledge). IsOrdered x × IsAtRest x i.instance) same (ordered, rests_here e)

-- ---- a turn

ticks_done : (r : Rules) (name : List ℕ) (c d : Course) (o : Option Knowledge) → restarter c.progress.world name ≡ o
    → IsInOrder o → AreDone r (map (λ n. deeds.Tick name n) (numbers_restless o)) c d
    → AreDone r (map (λ n. deeds.Tick name n) (numbers_known o)) c d
unfolding restless
ticks_done r name c d None is ordered h = h
ticks_done r name c d (Some k) is ordered h =
    skip_done r name (rests k) k.instances c d ordered.0
    (known_rest c.progress.world name k k.instances is ordered (all_found k.instances ordered.0)) h

ticks_failed : (r : Rules) (fails : Fails) (name : List ℕ) (c d : Course) (e : NodeFault) (o : Option Knowledge)
    → restarter c.progress.world name ≡ o → IsInOrder o
    → DeedsFail r fails (map (λ n. deeds.Tick name n) (numbers_restless o)) c d e
    → DeedsFail r fails (map (λ n. deeds.Tick name n) (numbers_known o)) c d e
unfolding restless
ticks_failed r fails name c d e None is ordered h = h
ticks_failed r fails name c d e (Some k) is ordered h =
    skip_failed r fails name (rests k) k.instances h.first h.failed h.rest c h.reached d e ordered.0
    (known_rest c.progress.world name k k.instances is ordered (all_found k.instances ordered.0)) h.whole h.done
    h.fault

deeds_done : (r : Rules) (t : Turn) (c d : Course) → IsTurnInOrder c.progress.world t
    → AreDone r (restless_deeds c.progress t) c d → AreDone r (deeds_of c.progress t) c d
unfolding deeds_of restless_deeds
deeds_done r (turns.Ticks name) c d ordered h = ticks_done r name c d (restarter c.progress.world name) refl ordered h
deeds_done r turns.Launches c d ordered h = h
deeds_done r turns.Messages c d ordered h = h
deeds_done r turns.Ask c d ordered h = h
deeds_done r turns.Orders c d ordered h = h
deeds_done r turns.Reports c d ordered h = h
deeds_done r (turns.OwnTick name) c d ordered h = h

deeds_failed : (r : Rules) (fails : Fails) (t : Turn) (c d : Course) (e : NodeFault)
    → IsTurnInOrder c.progress.world t → DeedsFail r fails (restless_deeds c.progress t) c d e
    → DeedsFail r fails (deeds_of c.progress t) c d e
unfolding deeds_of restless_deeds
deeds_failed r fails (turns.Ticks name) c d e ordered h =
    ticks_failed r fails name c d e (restarter c.progress.world name) refl ordered h
deeds_failed r fails turns.Launches c d e ordered h = h
deeds_failed r fails turns.Messages c d e ordered h = h
deeds_failed r fails turns.Ask c d e ordered h = h
deeds_failed r fails turns.Orders c d e ordered h = h
deeds_failed r fails turns.Reports c d e ordered h = h
deeds_failed r fails (turns.OwnTick name) c d e ordered h = h

-- the deeds that are left make what all deeds of the turn make
pub turn_taken : {X : Type 0} (r : Rules) (t : Turn) (c m d : Course) (ds : List Deed) (result : Result X NodeFault)
    → IsEntered r t c m → IsTurnInOrder m.progress.world t → ds ≡ restless_deeds m.progress t
    → OnOk result (AreDone r ds m d) → OnOk result (IsTaken r t c d)
unfolding IsTaken
turn_taken r t c m d ds (Ok x) entered ordered is h =
    (m, entered, deeds_done r t m d ordered (subst (λ (xs : List Deed). AreDone r xs m d) is h))
turn_taken r t c m d ds (Err e) entered ordered is h = tt

pub turn_failed : {X : Type 0} (r : Rules) (fails : Fails) (t : Turn) (c m d : Course) (ds : List Deed)
    (result : Result X NodeFault) → IsEntered r t c m → IsTurnInOrder m.progress.world t
    → ds ≡ restless_deeds m.progress t
    → IfErr result (λ e. DeedsFail r fails ds m d e) → IfErr result (λ e. TurnFails r fails t c d e)
unfolding TurnFails
turn_failed r fails t c m d ds (Ok x) entered ordered is h = tt
turn_failed r fails t c m d ds (Err e) entered ordered is h =
    inr (
      m,
      entered,
      inr (deeds_failed r fails t m d e ordered (subst (λ (xs : List Deed). DeedsFail r fails xs m d e) is h)),
    )

-- The rows that are told and the list of contracts keep what holds of what a restarter knows.
use Rattle.std.proofs.Common.{◌≡◌, ◌⊎◌, inl, inr, ℕ, ◌≤◌, ◌&&◌, Bool, true, false, cond, List, [], ◌∷◌, map, if◌then◌else◌, Option, Some, None, refl, sym, ap, ◌∙◌, subst, arith}
use Rattle.std.specs.Ordering.{is_eq}
use Rattle.smf_fmri.specs.ByKey.{By, Rises, lookup, list_with_item, put_all}
use Rattle.smf_fmri.proofs.Lookups.{equal_from_test, lookup_put, same_key, with_answer_cases}
use Rattle.smf_fmri.proofs.Places.{none_above}
use Rattle.smf_fmri.proofs.KeyOrder.{rises_put_all}
use Rattle.smf_fmri.proofs.SameLists.{found_key}
use Rattle.smf_state.specs.declared.row.Row.{Row}
use Rattle.smf_state.specs.declared.state.State.{State}
use Rattle.smf_state.specs.declared.state.State.TheVariants.{Offline, Online}
use Rattle.smf_state.specs.States.{runs}
use Rattle.smf_state.specs.declared.step.Proposal.{Proposal}
use Rattle.smf_state.specs.Rows.{is_stopped, same_state}
use Rattle.smf_model.specs.History.{History}
use Rattle.smf_model.specs.Contents.{Holdings}
use Rattle.smf_model.specs.Look.{launch_of}
use Rattle.smf_wire.specs.declared.message.Known.{Known}
use Rattle.smf_wire.specs.declared.message.Message.{Message}
use Rattle.smf_wire.specs.declared.message.Message.TheVariants as messages
use Rattle.smf_restarter.specs.declared.known.After.{After}
use Rattle.smf_restarter.specs.declared.known.KnownInstance.{KnownInstance}
use Rattle.smf_restarter.specs.declared.known.KnownRun.{KnownRun}
use Rattle.smf_restarter.specs.declared.known.Phase.TheVariants as phases
use Rattle.smf_restarter.specs.declared.known.Stage.{Stage}
use Rattle.smf_restarter.specs.declared.known.Stage.TheVariants as stages
use Rattle.smf_restarter.specs.declared.reply.KnowledgeChange.{KnowledgeChange}
use Rattle.smf_restarter.specs.Answers.{phase_under, with_phase_of_row}
use Rattle.smf_restarter.specs.Changes.{knowledge_after, no_change}
use Rattle.smf_restarter.specs.Ends.{ended_refresh, ended_start, ended_stop}
use Rattle.smf_restarter.specs.Knowledge.{Knowledge, by_instance, known_instance}
use Rattle.smf_restarter.specs.Replies.{idle}
use Rattle.smf_restarter.specs.Ticks.{is_up}
use Rattle.smf_world.proofs.RowClauses.{WasSaid}
use Rattle.smf_safety.proofs.SaidClauses.{AreSaid, IsRowOf, IsSaid}
use Rattle.smf_safety.proofs.KnowClauses.{IsAwaitedBy, IsDeadFor, IsInPhase, IsInformed, IsKnown}
use Rattle.smf_world.proofs.LiveLists.{Each, IsIn}
use Rattle.smf_safety.proofs.KnowKept.{IsSame, dead_on, known_more, mine_back, refusal_on, said_is, still_on}

-- ---- what is found in a list

-- a member of a list whose keys rise is the one that its key finds
member_by : {X K : Type 0} (o : By X K) (x y : X) (ys : List X) (b : Bool) → is_eq (o.cmp (o.key y) (o.key x)) ≡ b
    → Rises o (y ∷ ys) → lookup o ys (o.key x) ≡ Some x → cond b (Some y) (lookup o ys (o.key x)) ≡ Some x
member_by {X = X} {K = K} o x y ys true e r behind =
    let key : o.key y ≡ o.key x = o.exact (o.key y) (o.key x) (equal_from_test _ e) in
    let gone : lookup o ys (o.key x) ≡ None =
    subst (λ (k : K). lookup o ys k ≡ None) key (none_above o (o.key y) ys r.0 r.1) in
    absurd (nothing_there (lookup o ys (o.key x)) x gone behind)
  where
    nothing_there : (a : Option X) (z : X) → a ≡ None → a ≡ Some z → ⊥
    nothing_there a z p q = cc
member_by o x y ys false e r behind = behind

pub member_found : {X K : Type 0} (o : By X K) (x : X) (xs : List X) → Rises o xs → IsIn x xs
    → lookup o xs (o.key x) ≡ Some x
member_found o x [] r m = absurd m
member_found {X = X} o x (y ∷ ys) r (inl same) =
    subst (λ (z : X). cond (is_eq (o.cmp (o.key y) (o.key z))) (Some y) (lookup o ys (o.key z)) ≡ Some z) same
    (rw (same_key o (o.key y)) refl)
member_found o x (y ∷ ys) r (inr m) =
    member_by o x y ys (is_eq (o.cmp (o.key y) (o.key x))) refl r (member_found o x ys r.1 m)

-- an item that is found after several puts was put, or was found before
pub put_all_found : {X K : Type 0} (o : By X K) (ys xs : List X) (k : K) (x : X)
    → lookup o (put_all o ys xs) k ≡ Some x → IsIn x ys ⊎ (lookup o xs k ≡ Some x)
put_all_found o [] xs k x e = inr e
put_all_found {X = X} o (y ∷ ys) xs k x e = by (put_all_found o ys (list_with_item o y xs) k x e)
  where
    one : (a b : X) → Some a ≡ Some b → a ≡ b
    one a b p = cc

    put_by_one : ((o.key y ≡ k) × (Some y ≡ Some x))
        ⊎ ((is_eq (o.cmp (o.key y) k) ≡ false) × (lookup o xs k ≡ Some x)) → IsIn x (y ∷ ys) ⊎ (lookup o xs k ≡ Some x)
    put_by_one (inl here) = inl (inl (one y x here.1))
    put_by_one (inr other) = inr other.1

    by : IsIn x ys ⊎ (lookup o (list_with_item o y xs) k ≡ Some x) → IsIn x (y ∷ ys) ⊎ (lookup o xs k ≡ Some x)
    by (inl m) = inl (inr m)
    by (inr p) = put_by_one
        (with_answer_cases o (lookup o xs) (o.key y) (Some y) k (Some x) (sym (lookup_put o y xs k) ∙ p))

-- an item of a mapped list is made from an item of the list
pub mapped_in : {X Y : Type 0} (f : X → Y) (xs : List X) (z : Y) → IsIn z (map f xs) → (x : X) × (f x ≡ z) × IsIn x xs
mapped_in f [] z m = absurd m
mapped_in f (x ∷ xs) z (inl same) = (x, same, inl refl)
mapped_in f (x ∷ xs) z (inr m) = let g = mapped_in f xs z m in (g.0, g.1, inr g.2)

pub each_in : {X : Type 0} (P : X → Type 0) (xs : List X) (x : X) → Each P xs → IsIn x xs → P x
each_in P [] x e m = absurd m
each_in P (y ∷ ys) x e (inl same) = subst P same e.0
each_in P (y ∷ ys) x e (inr m) = each_in P ys x e.1 m

-- ---- what does not change

-- all but what is known of runs
pub record IsAlike (k l : Knowledge) : Type 0 where
  pub name : l.name ≡ k.name
  pub launch : l.launch ≡ k.launch
  pub serial : l.serial ≡ k.serial
  pub stage : l.stage ≡ k.stage
  pub instances : l.instances ≡ k.instances

pub with_runs : (k : Knowledge) (run : Option KnownRun) → IsAlike k (knowledge_after k (record no_change { run = run }))
unfolding knowledge_after
with_runs k run = record { name = refl; launch = refl; serial = refl; stage = refl; instances = refl }

pub informed_alike : (y : History) (h : Holdings) (ms : List Message) (B : ℕ → ℕ → Type 0) (k l : Knowledge)
    → IsAlike k l → IsInformed y h ms B k → IsInformed y h ms B l
informed_alike y h ms B k l a f =
    subst (IsInformed y h ms B) (λ j. record {
      name = sym a.name j;
      actor = l.actor;
      launch = sym a.launch j;
      serial = sym a.serial j;
      stage = sym a.stage j;
      instances = sym a.instances j;
      runs = l.runs;
    })
    (other f)
  where
    other : IsInformed y h ms B k → IsInformed y h ms B (record k { actor = l.actor; runs = l.runs })
    other g =
        let m : Knowledge = record k { actor = l.actor; runs = l.runs } in
        let same : IsSame k m = record { name = refl; launch = refl; serial = omega arith } in
        record {
          launch = g.launch;
          launched = g.launched;
          rises = g.rises;
          blank = g.blank;
          unserved = g.unserved;
          idle = g.idle;
          serial = λ q w is. g.serial q w (mine_back k m q same is);
          each = λ n i e. known_more y h ms ms B B k m n i
              (record { same = same; said = λ q w. w; mine = λ q w is at. w; begun = λ run of there owner b. b })
              (g.each n i e);
          dead = λ q w is. dead_by q (g.dead q w (mine_back k m q same is));
          acks = λ serial n r p after i w e ph s b. still_on h k m n serial same
              (g.acks serial n r p after i w e ph s b);
          nacks = λ serial n why o p after i w e ph s. refusal_on h k m p why o same
              (g.nacks serial n why o p after i w e ph s);
        }
      where
        m : Knowledge
        m = record k { actor = l.actor; runs = l.runs }

        dead_by : (q : Proposal) → IsDeadFor h k q ⊎ IsAwaitedBy k q → IsDeadFor h m q ⊎ IsAwaitedBy m q
        dead_by q (inl d) = inl d
        dead_by q (inr x) = inr (record { of = x.of; after = x.after; is_known = x.is_known; phase = x.phase })

-- ---- stages

-- l is a further stage of k, which was not up
pub record IsStaged (y : History) (h : Holdings) (ms : List Message) (B : ℕ → ℕ → Type 0)
    (k l : Knowledge) : Type 0 where
  pub down : is_up k.stage ≡ false
  pub same : IsSame k l
  pub serial : l.serial ≡ k.serial
  pub past : l.stage ≡ stages.Joining → ⊥
  pub rises : Rises by_instance l.instances
  pub idle : is_up l.stage ≡ false → (n : ℕ) (i : KnownInstance) → known_instance l n ≡ Some i → i.phase ≡ phases.Idle
  pub is_known : (n : ℕ) (i : KnownInstance) → known_instance l n ≡ Some i → IsKnown y h ms B l n i
  pub never : (n : ℕ) (i : KnownInstance) (p : Proposal) (after : After) → known_instance l n ≡ Some i
      → i.phase ≡ phases.Waiting p after → ⊥

idle_awaits : (i : KnownInstance) (p : Proposal) (after : After) → i.phase ≡ phases.Idle
    → i.phase ≡ phases.Waiting p after → ⊥
idle_awaits i p after e f = let g : phases.Idle ≡ phases.Waiting p after = sym e ∙ f in cc

informed_staged : (y : History) (h : Holdings) (ms : List Message) (B : ℕ → ℕ → Type 0) (k l : Knowledge)
    → IsStaged y h ms B k l → IsInformed y h ms B k → IsInformed y h ms B l
informed_staged y h ms B k l s f =
    record {
      launch = s.same.launch ∙ (f.launch ∙ ap (launch_of h) (sym s.same.name));
      launched = subst (λ (x : ℕ). 1 ≤ x) (sym s.same.launch) f.launched;
      rises = s.rises;
      blank = λ e. absurd (s.past e);
      unserved = λ e. s.serial ∙ f.unserved s.down;
      idle = s.idle;
      serial = λ q w is. subst (λ (x : ℕ). q.serial ≤ x) (sym s.serial) (f.serial q w (mine_back k l q s.same is));
      each = s.is_known;
      dead = λ q w is. by q (f.dead q w (mine_back k l q s.same is));
      acks = λ serial n r p after i w e ph t b. absurd (s.never n i p after e ph);
      nacks = λ serial n why o p after i w e ph t. absurd (s.never n i p after e ph);
    }
  where
    by : (q : Proposal) → IsDeadFor h k q ⊎ IsAwaitedBy k q → IsDeadFor h l q ⊎ IsAwaitedBy l q
    by q (inl d) = inl (dead_on h k l q s.same d)
    by q (inr x) = absurd (idle_awaits x.of q x.after (f.idle s.down q.instance x.of x.is_known) x.phase)

-- ---- rows

same_learning : (k : Knowledge) (rows : List Known)
    → IsSame k (knowledge_after k (record no_change { stage = Some stages.Listing; put = map idle rows }))
unfolding knowledge_after
same_learning k rows = record { name = refl; launch = refl; serial = omega arith }

rises_learning : (k : Knowledge) (rows : List Known) → Rises by_instance k.instances
    → Rises by_instance
    (knowledge_after k (record no_change { stage = Some stages.Listing; put = map idle rows })).instances
unfolding knowledge_after
rises_learning k rows r = rises_put_all by_instance (map idle rows) k.instances r

found_learning : (k : Knowledge) (rows : List Known) (n : ℕ) (i : KnownInstance)
    → known_instance (knowledge_after k (record no_change { stage = Some stages.Listing; put = map idle rows })) n
    ≡ Some i → IsIn i (map idle rows) ⊎ (known_instance k n ≡ Some i)
unfolding knowledge_after
found_learning k rows n i e = put_all_found by_instance (map idle rows) k.instances n i e

parts_learning : (k : Knowledge) (rows : List Known) → let l =
    knowledge_after k (record no_change { stage = Some stages.Listing; put = map idle rows }) in
    (l.serial ≡ k.serial) × (l.stage ≡ stages.Listing)
unfolding knowledge_after
parts_learning k rows = (refl, refl)

down_at : (s t : Stage) → s ≡ t → is_up t ≡ false → is_up s ≡ false
down_at s t e d = ap is_up e ∙ d

no_joining : (s : Stage) → s ≡ stages.Listing → s ≡ stages.Joining → ⊥
no_joining s e f = let g : stages.Listing ≡ stages.Joining = sym e ∙ f in cc

pub informed_learns : (y : History) (h : Holdings) (ms : List Message) (B : ℕ → ℕ → Type 0) (k : Knowledge)
    (name : List ℕ) (rows : List Known)
    → AreSaid h ms → k.stage ≡ stages.Joining → WasSaid (messages.Rows name k.launch rows) ms → name ≡ k.name
    → IsInformed y h ms B k
    → IsInformed y h ms B (knowledge_after k (record no_change { stage = Some stages.Listing; put = map idle rows }))
informed_learns y h ms B k name rows said stage w to f =
    informed_staged y h ms B k l
    (record {
      down = down;
      same = same_learning k rows;
      serial = parts.0;
      past = λ e. no_joining l.stage parts.1 e;
      rises = rises_learning k rows f.rises;
      idle = λ e n i there. idle_now n i (found_learning k rows n i there);
      is_known = λ n i there. known_now n i there (found_learning k rows n i there);
      never = λ n i p after there ph. idle_awaits i p after (idle_now n i (found_learning k rows n i there)) ph;
    }) f
  where
    l : Knowledge
    l = knowledge_after k (record no_change { stage = Some stages.Listing; put = map idle rows })

    parts : (l.serial ≡ k.serial) × (l.stage ≡ stages.Listing)
    parts = parts_learning k rows

    down : is_up k.stage ≡ false
    down = down_at k.stage stages.Joining stage refl

    told : Each (IsRowOf h name) rows
    told = (said_is (IsSaid h ms) (messages.Rows name k.launch rows) ms said.each w).1

    idle_now : (n : ℕ) (i : KnownInstance) → IsIn i (map idle rows) ⊎ (known_instance k n ≡ Some i)
        → i.phase ≡ phases.Idle
    idle_now n i (inl m) = let x = mapped_in idle rows i m in ap (λ (z : KnownInstance). z.phase) (sym x.1)
    idle_now n i (inr e) = f.idle down n i e

    as_row : (n : ℕ) (i : KnownInstance) (x : Known) → idle x ≡ i → i.instance ≡ n → IsRowOf h name x
        → IsKnown y h ms B l n i
    as_row n i x e key r =
        subst (λ (m : ℕ). IsKnown y h ms B l m i) key
        (subst (λ (z : KnownInstance). IsKnown y h ms B l z.instance z) e
        (record { was = r.was; owner = r.owner ∙ (to ∙ sym (same_learning k rows).name); phase = tt }))

    known_now : (n : ℕ) (i : KnownInstance) → known_instance l n ≡ Some i
        → IsIn i (map idle rows) ⊎ (known_instance k n ≡ Some i) → IsKnown y h ms B l n i
    known_now n i there (inl m) =
        let x = mapped_in idle rows i m in
        as_row n i x.0 x.1 (found_key by_instance n l.instances i there) (each_in (IsRowOf h name) rows x.0 told x.2)
    known_now n i there (inr e) =
        known_more y h ms ms B B k l n i
        (record {
          same = same_learning k rows;
          said = λ q z. z;
          mine = λ q z is at. z;
          begun = λ run of there owner b. b;
        }) (f.each n i e)

-- ---- the list of contracts

abbrev listing : Knowledge → List KnownRun → KnowledgeChange
listing k rs = record no_change { stage = Some stages.Up; put = map with_phase_of_row k.instances; listed = rs }

same_listing : (k : Knowledge) (rs : List KnownRun) → IsSame k (knowledge_after k (listing k rs))
unfolding knowledge_after
same_listing k rs = record { name = refl; launch = refl; serial = omega arith }

rises_listing : (k : Knowledge) (rs : List KnownRun) → Rises by_instance k.instances
    → Rises by_instance (knowledge_after k (listing k rs)).instances
unfolding knowledge_after
rises_listing k rs r = rises_put_all by_instance (map with_phase_of_row k.instances) k.instances r

found_listing : (k : Knowledge) (rs : List KnownRun) (n : ℕ) (i : KnownInstance)
    → known_instance (knowledge_after k (listing k rs)) n ≡ Some i
    → IsIn i (map with_phase_of_row k.instances) ⊎ (known_instance k n ≡ Some i)
unfolding knowledge_after
found_listing k rs n i e = put_all_found by_instance (map with_phase_of_row k.instances) k.instances n i e

parts_listing : (k : Knowledge) (rs : List KnownRun) → let l = knowledge_after k (listing k rs) in
    (l.serial ≡ k.serial) × (l.stage ≡ stages.Up)
unfolding knowledge_after
parts_listing k rs = (refl, refl)

up_not : (s : Stage) → s ≡ stages.Up → s ≡ stages.Joining → ⊥
up_not s e f = let g : stages.Up ≡ stages.Joining = sym e ∙ f in cc

up_not_down : (s : Stage) → s ≡ stages.Up → is_up s ≡ false → ⊥
up_not_down s e f = let g : is_up stages.Up ≡ false = subst (λ (x : Stage). is_up x ≡ false) e f in cc

under_starts : (next state : State) → same_state next state ≡ true → state ≡ Offline → next ≡ Online → ⊥
under_starts next state e f g = grind arith

under_stops : (next state to : State) → same_state next state ≡ true → runs state ≡ true → is_stopped to ≡ true
    → next ≡ to → ⊥
under_stops next state to e f g i = grind arith

next_one : (s t : State) → Some s ≡ Some t → s ≡ t
next_one s t e = cc

under_phase : (y : History) (h : Holdings) (ms : List Message) (B : ℕ → ℕ → Type 0) (k : Knowledge) (n : ℕ) (r : Row)
    (o : Option State) → r.next ≡ o → IsInPhase y h ms B k n r (phase_under r o)
under_phase y h ms B k n r None e = tt
under_phase y h ms B k n r (Some next) e =
    by (same_state next r.state) (same_state r.state Offline && same_state next Online) refl
  where
    by : (a b : Bool) → same_state next r.state ≡ a
        → IsInPhase y h ms B k n r
        (if a then phases.Ending (ended_refresh r) else if b then phases.Ending (ended_start r)
        else phases.Ending (ended_stop r next))
    by true b f =
        record {
          start = λ s. absurd (under_starts next r.state f s.state (next_one next Online (sym e ∙ s.next)));
          stop = λ s. absurd (under_stops next r.state s.to f s.state s.stopped (next_one next s.to (sym e ∙ s.next)));
        }
    by false true f = record { start = λ s. inr refl; stop = λ s. refl }
    by false false f = record { start = λ s. inr refl; stop = λ s. refl }

under_no_wait : (r : Row) (o : Option State) (p : Proposal) (after : After) → phase_under r o ≡ phases.Waiting p after
    → ⊥
under_no_wait r None p after e = absurd cc
under_no_wait r (Some next) p after e =
    by (same_state next r.state) (same_state r.state Offline && same_state next Online) e
  where
    by : (a b : Bool)
        → (if a then phases.Ending (ended_refresh r) else if b then phases.Ending (ended_start r)
        else phases.Ending (ended_stop r next)) ≡ phases.Waiting p after → ⊥
    by true b f = absurd cc
    by false true f = absurd cc
    by false false f = absurd cc

pub informed_lists : (y : History) (h : Holdings) (ms : List Message) (B : ℕ → ℕ → Type 0) (k : Knowledge)
    (rs : List KnownRun)
    → k.stage ≡ stages.Listing → IsInformed y h ms B k
    → IsInformed y h ms B
    (knowledge_after k
    (record no_change { stage = Some stages.Up; put = map with_phase_of_row k.instances; listed = rs }))
informed_lists y h ms B k rs stage f =
    informed_staged y h ms B k l
    (record {
      down = down;
      same = same_listing k rs;
      serial = parts.0;
      past = λ e. up_not l.stage parts.1 e;
      rises = rises_listing k rs f.rises;
      idle = λ e. absurd (up_not_down l.stage parts.1 e);
      is_known = λ n i there. known_now n i there (found_listing k rs n i there);
      never = λ n i p after there ph. never_now n i p after ph (found_listing k rs n i there);
    }) f
  where
    l : Knowledge
    l = knowledge_after k (listing k rs)

    parts : (l.serial ≡ k.serial) × (l.stage ≡ stages.Up)
    parts = parts_listing k rs

    down : is_up k.stage ≡ false
    down = down_at k.stage stages.Listing stage refl

    never_now : (n : ℕ) (i : KnownInstance) (p : Proposal) (after : After) → i.phase ≡ phases.Waiting p after
        → IsIn i (map with_phase_of_row k.instances) ⊎ (known_instance k n ≡ Some i) → ⊥
    never_now n i p after ph (inl m) = let x = mapped_in with_phase_of_row k.instances i m in
        under_no_wait x.0.row x.0.row.next p after (ap (λ (z : KnownInstance). z.phase) x.1 ∙ ph)
    never_now n i p after ph (inr e) = idle_awaits i p after (f.idle down n i e) ph

    as_phased : (n : ℕ) (i x : KnownInstance) → with_phase_of_row x ≡ i → i.instance ≡ n
        → IsKnown y h ms B k x.instance x → IsKnown y h ms B l n i
    as_phased n i x e key a =
        subst (λ (m : ℕ). IsKnown y h ms B l m i) key
        (subst (λ (z : KnownInstance). IsKnown y h ms B l z.instance z) e
        (record {
          was = a.was;
          owner = a.owner ∙ sym (same_listing k rs).name;
          phase = under_phase y h ms B l x.instance x.row x.row.next refl;
        }))

    known_now : (n : ℕ) (i : KnownInstance) → known_instance l n ≡ Some i
        → IsIn i (map with_phase_of_row k.instances) ⊎ (known_instance k n ≡ Some i) → IsKnown y h ms B l n i
    known_now n i there (inl m) =
        let x = mapped_in with_phase_of_row k.instances i m in
        as_phased n i x.0 x.1 (found_key by_instance n l.instances i there)
        (f.each x.0.instance x.0 (member_found by_instance x.0 k.instances f.rises x.2))
    known_now n i there (inr e) =
        known_more y h ms ms B B k l n i
        (record {
          same = same_listing k rs;
          said = λ q z. z;
          mine = λ q z is at. z;
          begun = λ run of there owner b. b;
        }) (f.each n i e)

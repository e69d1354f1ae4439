-- The facts that restarters know of runs agree with the contract table. A run that is known empty does not live. A
-- restarter that lists the contracts knows each start that lives.
use Rattle.std.proofs.Common.{◌≡◌, ◌⊎◌, ◌+◌, ◌==◌, ◌&&◌, ◌||◌, not, nat_lt, arith, length, ℕ, suc, Bool, true, false, cond, if◌then◌else◌, List, [], ◌∷◌, ◌++◌, map, filter, position, Option, Some, None, inl, inr, refl, sym, ap, ◌∙◌, subst, eqb-true}
use Rattle.std.specs.Prelude.{IsSome, flat_map, find, option_to_list, slice_get}
use Rattle.std.specs.List.{prefix_len}
use Rattle.std.specs.Ordering.{is_eq}
use Rattle.std.specs.declared.cmp.Ordering.{Ordering}
use Rattle.std.specs.declared.cmp.Ordering.TheVariants.{Less, Equal, Greater}
use Rattle.smf_fmri.specs.ByKey.{By, has_key, lookup, list_with_item, put_all, put_by}
use Rattle.smf_fmri.proofs.Lookups.{lookup_put, same_key}
use Rattle.smf_fmri.proofs.SameLists.{found_key}
use Rattle.smf_contract.specs.declared.contract.Contract.{Contract}
use Rattle.smf_contract.specs.declared.contract.Member.{Member}
use Rattle.smf_contract.specs.declared.contract.Report.{Report}
use Rattle.smf_contract.specs.declared.cookie.Cookie.{Cookie}
use Rattle.smf_contract.specs.declared.cookie.Method.{Method}
use Rattle.smf_contract.specs.declared.cookie.Method.TheVariants as methods
use Rattle.smf_contract.specs.declared.event.ContractEvent.{ContractEvent}
use Rattle.smf_contract.specs.declared.event.EventKind.{EventKind}
use Rattle.smf_contract.specs.declared.event.EventKind.TheVariants as kinds
use Rattle.smf_contract.specs.Cookies.{cookie_of_bits}
use Rattle.smf_contract.specs.Entries.{Contracts, contract, event_in, found_at, has_id, has_members, is_event, is_in, processes, report_of, report_of_event as report_at, status_of, statuses}
use Rattle.smf_restarter.specs.declared.known.KnownRun.{KnownRun}
use Rattle.smf_restarter.specs.declared.known.RunKey.{RunKey}
use Rattle.smf_restarter.specs.declared.reply.KnowledgeChange.{KnowledgeChange}
use Rattle.smf_restarter.specs.Answers.{is_empty_event, change_on_report, reported_as, run_after, run_or, run_reported}
use Rattle.smf_restarter.specs.Changes.{knowledge_after}
use Rattle.smf_restarter.specs.Knowledge.{Knowledge, by_run}
use Rattle.smf_restarter.specs.Runs.{has_none, listed_as, listed_if, listed_run, run_at}
use Rattle.smf_world.specs.declared.item.Item.{Item}
use Rattle.smf_world.specs.declared.item.Item.TheVariants.{Boot, Committed, Held, Spawned, Emptied}
use Rattle.smf_world.specs.Safe.{WasSpawned}
use Rattle.smf_safety.proofs.LiveClauses.{EmptyIsDead, IsAmong, LiveRun, Lives, Once, live_runs}
use Rattle.smf_world.proofs.LiveEach.{each_both, each_in, each_later}
use Rattle.smf_world.proofs.LiveLists.{Each, IsIn}
use Rattle.smf_safety.proofs.TablesClauses.{AreSpawned, EmptyIsEmpty, IsHeldLive, IsSpawned, IsTable, OneOfRun, Tag, spawned_for, tag_of, tags}

-- ---- one contract of a run

clash : (b : Bool) → b ≡ true → b ≡ false → ⊥
clash b e f = cc

for_spawned : (c : ℕ) (t : List Item) (k : Cookie) → spawned_for c t ≡ Some k → WasSpawned k.instance k.run t
for_spawned c [] k e = absurd cc
for_spawned c (Spawned d i run method revision command ∷ t) k e = by (d == c) e (for_spawned c t k)
  where
    by : (b : Bool) → (if b then Some (record { instance = i; run = run; method = method }) else spawned_for c t)
        ≡ Some k → (spawned_for c t ≡ Some k → WasSpawned k.instance k.run t)
        → ((i ≡ k.instance) × (run ≡ k.run)) ⊎ WasSpawned k.instance k.run t
    by true f ih = let one : i ≡ k.instance = cc in let two : run ≡ k.run = cc in inl (one, two)
    by false f ih = inr (ih f)
for_spawned c (Boot ∷ t) k e = absurd cc
for_spawned c (Committed i n s next ∷ t) k e = for_spawned c t k e
for_spawned c (Held name launch i n s ∷ t) k e = for_spawned c t k e
for_spawned c (Emptied d ∷ t) k e = for_spawned c t k e

-- the cookie of contract c after a method was begun in contract d: that of the method, or the one from before
record IsFor (d c i run : ℕ) (t : List Item) (k : Cookie) : Type 0 where
  is : ((d ≡ c) × (i ≡ k.instance) × (run ≡ k.run)) ⊎ (spawned_for c t ≡ Some k)

is_for : (d c i run : ℕ) (m : Method) (t : List Item) (k : Cookie) (b : Bool) → (d == c) ≡ b
    → (if b then Some (record { instance = i; run = run; method = m }) else spawned_for c t) ≡ Some k
    → IsFor d c i run t k
is_for d c i run m t k true e f = let one : i ≡ k.instance = cc in let two : run ≡ k.run = cc in
    record { is = inl (eqb-true d c e, one, two) }
is_for d c i run m t k false e f = record { is = inr f }

one_of : (a b : ℕ) (t : List Item) (k l : Cookie) → Once t → k.instance ≡ l.instance → k.run ≡ l.run
    → spawned_for a t ≡ Some k → spawned_for b t ≡ Some l → a ≡ b
one_of a b [] k l o e f x y = absurd cc
one_of a b (Spawned d i run m revision command ∷ t) k l o e f x y =
    by (is_for d a i run m t k (d == a) refl x).is (is_for d b i run m t l (d == b) refl y).is
    (one_of a b t k l o.1 e f)
  where
    by : ((d ≡ a) × (i ≡ k.instance) × (run ≡ k.run)) ⊎ (spawned_for a t ≡ Some k)
        → ((d ≡ b) × (i ≡ l.instance) × (run ≡ l.run)) ⊎ (spawned_for b t ≡ Some l)
        → (spawned_for a t ≡ Some k → spawned_for b t ≡ Some l → a ≡ b) → a ≡ b
    by (inl (p, q, r)) (inl (u, v, w)) ih = sym p ∙ u
    by (inl (p, q, r)) (inr z) ih =
        absurd (o.0 (subst (λ (n : ℕ). WasSpawned n run t) (sym (q ∙ e))
        (subst (λ (n : ℕ). WasSpawned l.instance n t) (sym (r ∙ f)) (for_spawned b t l z))))
    by (inr z) (inl (u, v, w)) ih =
        absurd (o.0 (subst (λ (n : ℕ). WasSpawned n run t) (sym (v ∙ sym e))
        (subst (λ (n : ℕ). WasSpawned k.instance n t) (sym (w ∙ sym f)) (for_spawned a t k z))))
    by (inr z) (inr u) ih = ih z u
one_of a b (Boot ∷ t) k l o e f x y = absurd cc
one_of a b (Committed i n s next ∷ t) k l o e f x y = one_of a b t k l o e f x y
one_of a b (Held name launch i n s ∷ t) k l o e f x y = one_of a b t k l o e f x y
one_of a b (Emptied d ∷ t) k l o e f x y = one_of a b t k l o e f x y

-- C.once
pub one_of_run : (t : Contracts) (trail : List Item) → AreSpawned t trail → Once trail → OneOfRun t
one_of_run t trail spawned once a b k l ia ib ua ub e f =
    let x : IsSpawned trail a = each_in (IsSpawned trail) a (tags t.contracts) spawned ia in
    let y : IsSpawned trail b = each_in (IsSpawned trail) b (tags t.contracts) spawned ib in
    let kx : x.cookie ≡ k = one_cookie x.cookie k (sym x.unpacks ∙ ua) in
    let ly : y.cookie ≡ l = one_cookie y.cookie l (sym y.unpacks ∙ ub) in
    one_of a.id b.id trail k l once e f (x.spawned ∙ ap (λ (c : Cookie). Some c) kx)
    (y.spawned ∙ ap (λ (c : Cookie). Some c) ly)
  where
    one_cookie : (c d : Cookie) → Some c ≡ Some d → c ≡ d
    one_cookie c d e = cc

-- ---- what lives, in the table

-- a start that lives, as the table has it
record IsHeldAs (t : Contracts) (n run : ℕ) : Type 0 where
  of : LiveRun
  held : IsHeldLive t of
  instance : of.instance ≡ n
  run_is : of.run ≡ run

held_among : (t : Contracts) (n run : ℕ) (ls : List LiveRun) → Each (IsHeldLive t) ls → IsAmong n run ls
    → IsHeldAs t n run
held_among t n run [] a x = absurd x
held_among t n run (l ∷ ls) a (inl e) = record { of = l; held = a.0; instance = e.0; run_is = e.1 }
held_among t n run (l ∷ ls) a (inr x) = held_among t n run ls a.1 x

-- a contract without members is of no start that lives
pub dead_where_none : (t : Contracts) (trail : List Item) (g : Tag) (c : Cookie) → IsTable t trail → Once trail
    → IsIn g (tags t.contracts) → cookie_of_bits g.cookie ≡ Some c → has_members g.id t.members ≡ false
    → Lives c.instance c.run trail → ⊥
dead_where_none t trail g c k once there unpacks none lives =
    let h : IsHeldAs t c.instance c.run = held_among t c.instance c.run (live_runs trail) k.live lives in
    let other : Tag = record { id = h.of.contract; cookie = h.held.cookie } in
    let same : g.id ≡ h.of.contract =
    one_of_run t trail k.spawned once g other c
    (record { instance = h.of.instance; run = h.of.run; method = methods.Start }) there h.held.is_there unpacks
    h.held.unpacks (sym h.instance) (sym h.run_is) in
    clash (has_members g.id t.members) (subst (λ (n : ℕ). has_members n t.members ≡ true) (sym same) h.held.members)
    none

-- the run that a contract's cookie names was begun
pub begun_of : (t : Contracts) (trail : List Item) (g : Tag) (c : Cookie) → AreSpawned t trail
    → IsIn g (tags t.contracts) → cookie_of_bits g.cookie ≡ Some c → WasSpawned c.instance c.run trail
begun_of t trail g c spawned there e =
    let x : IsSpawned trail g = each_in (IsSpawned trail) g (tags t.contracts) spawned there in
    for_spawned g.id trail c (x.spawned ∙ sym x.unpacks ∙ e)

-- ---- runs that are known

-- a run that is known was begun, and a run that is known empty does not live
pub record IsTrue (trail : List Item) (r : KnownRun) : Type 0 where
  pub begun : WasSpawned r.key.instance r.key.run trail
  pub dead : r.empty ≡ true → Lives r.key.instance r.key.run trail → ⊥

-- L.known and L.empty for all that a restarter knows
abbrev pub RunsAreTrue : List Item → Knowledge → Type 0
RunsAreTrue trail k = Each (IsTrue trail) k.runs

pub each_found : {X : Type 0} (P : X → Type 0) (test : X → Bool) (xs : List X) (x : X) → Each P xs
    → find test xs ≡ Some x → P x
each_found P test [] x a e = absurd cc
each_found P test (y ∷ ys) x a e = by (test y) e (each_found P test ys x a.1)
  where
    by : (b : Bool) → cond b (Some y) (find test ys) ≡ Some x → (find test ys ≡ Some x → P x) → P x
    by true f ih = let one : y ≡ x = cc in subst P one a.0
    by false f ih = ih f

pub empty_is_dead : (trail : List Item) (k : Knowledge) → RunsAreTrue trail k → EmptyIsDead trail k
empty_is_dead trail k a n run r e f lives =
    let key : r.key ≡ record { instance = n; run = run } =
    found_key by_run (record { instance = n; run = run }) k.runs r e in
    (each_found (IsTrue trail) (has_key by_run (record { instance = n; run = run })) k.runs r a e).dead f
    (subst (λ (x : RunKey). Lives x.instance x.run trail) (sym key) lives)

each_put : {X K : Type 0} (P : X → Type 0) (o : By X K) (x : X) (xs : List X) → P x → Each P xs
    → Each P (list_with_item o x xs)
each_put P o x [] p a = (p, tt)
each_put P o x (y ∷ ys) p a = by (o.cmp (o.key y) (o.key x)) (each_put P o x ys p a.1)
  where
    by : (r : Ordering) → Each P (list_with_item o x ys) → Each P (put_by r x y ys (list_with_item o x ys))
    by Less ih = (a.0, ih)
    by Equal ih = (p, a.1)
    by Greater ih = (p, (a.0, a.1))

each_put_all : {X K : Type 0} (P : X → Type 0) (o : By X K) (ys xs : List X) → Each P ys → Each P xs
    → Each P (put_all o ys xs)
each_put_all P o [] xs a b = b
each_put_all P o (y ∷ ys) xs a b = each_put_all P o ys (list_with_item o y xs) a.1 (each_put P o y xs a.0 b)

-- if a change brings true facts of runs, all facts of runs are true after it
pub true_changed : (trail : List Item) (k : Knowledge) (c : KnowledgeChange) → RunsAreTrue trail k
    → Each (IsTrue trail) c.listed → Each (IsTrue trail) (option_to_list c.run)
    → RunsAreTrue trail (knowledge_after k c)
unfolding knowledge_after
true_changed trail k c a b d =
    each_put_all (IsTrue trail) by_run (option_to_list c.run) (put_all by_run c.listed k.runs) d
    (each_put_all (IsTrue trail) by_run c.listed k.runs b a)

-- ---- the contracts are listed

each_flat : {X Y : Type 0} (P : Y → Type 0) (f : X → List Y) (xs : List X) → Each (λ x. Each P (f x)) xs
    → Each P (flat_map f xs)
each_flat P f [] a = tt
each_flat P f (x ∷ xs) a = each_both P (f x) (flat_map f xs) a.0 (each_flat P f xs a.1)

none_has : (id : ℕ) (ms : List Member) → has_none (processes id ms) ≡ true → has_members id ms ≡ false
none_has id [] e = refl
none_has id (m ∷ ms) e = by (is_in id m) refl e (none_has id ms)
  where
    by : (b : Bool) → is_in id m ≡ b
        → has_none (map (λ (x : Member). x.process) (cond b (m ∷ filter (is_in id) ms) (filter (is_in id) ms))) ≡ true
        → (has_none (processes id ms) ≡ true → has_members id ms ≡ false) → (is_in id m || has_members id ms) ≡ false
    by true f g ih = absurd cc
    by false f g ih = rw f (ih g)

one_listed : (t : Contracts) (trail : List Item) (k : Knowledge) (c : Contract) (o : Option Cookie)
    → cookie_of_bits c.cookie ≡ o → IsTable t trail → Once trail → IsIn (tag_of c) (tags t.contracts)
    → Each (IsTrue trail) (listed_if k (status_of t c) o)
one_listed t trail k c None e is once there = tt
one_listed t trail k c (Some cookie) e is once there = (
  record {
    begun = begun_of t trail (tag_of c) cookie is.spawned there e;
    dead = λ none lives. dead_where_none t trail (tag_of c) cookie is once there e (none_has c.id t.members none) lives;
  },
  tt,
)

all_listed : (t : Contracts) (trail : List Item) (k : Knowledge) (cs : List Contract) → IsTable t trail → Once trail
    → ((c : Contract) → IsIn c cs → IsIn (tag_of c) (tags t.contracts))
    → Each (λ s. Each (IsTrue trail) (listed_run k s)) (map (status_of t) cs)
all_listed t trail k [] is once there = tt
all_listed t trail k (c ∷ cs) is once there = (
  one_listed t trail k c (cookie_of_bits c.cookie) refl is once (there c (inl refl)),
  all_listed t trail k cs is once (λ d i. there d (inr i)),
)

tag_in : (c : Contract) (cs : List Contract) → IsIn c cs → IsIn (tag_of c) (tags cs)
tag_in c [] i = absurd i
tag_in c (d ∷ ds) (inl e) = inl (ap tag_of e)
tag_in c (d ∷ ds) (inr i) = inr (tag_in c ds i)

-- the facts of the listed runs are true
pub listed_true : (t : Contracts) (trail : List Item) (k : Knowledge) → IsTable t trail → Once trail
    → Each (IsTrue trail) (flat_map (listed_run k) (statuses t))
listed_true t trail k is once =
    each_flat (IsTrue trail) (listed_run k) (statuses t)
    (all_listed t trail k t.contracts is once (λ c i. tag_in c t.contracts i))

-- ---- and each start that lives is among what is listed

in_front : {X : Type 0} (x : X) (xs ys : List X) → IsIn x xs → IsIn x (xs ++ ys)
in_front x [] ys a = absurd a
in_front x (z ∷ zs) ys (inl e) = inl e
in_front x (z ∷ zs) ys (inr a) = inr (in_front x zs ys a)

behind : {X : Type 0} (x : X) (xs ys : List X) → IsIn x ys → IsIn x (xs ++ ys)
behind x [] ys a = a
behind x (z ∷ zs) ys a = inr (behind x zs ys a)

-- a run of these is of this instance and number
record HasRun (rs : List KnownRun) (n run : ℕ) : Type 0 where
  of : KnownRun
  is_in : IsIn of rs
  key : of.key ≡ record { instance = n; run = run }

listed_here : (t : Contracts) (k : Knowledge) (c : Contract) (cookie : Cookie) (o : Option Cookie) → o ≡ Some cookie
    → HasRun (listed_if k (status_of t c) o) cookie.instance cookie.run
listed_here t k c cookie None e = absurd cc
listed_here t k c cookie (Some d) e = let one : d ≡ cookie = cc in
    record {
      of = listed_as k (status_of t c) d;
      is_in = inl refl;
      key = λ j. record { instance = (one j).instance; run = (one j).run };
    }

has_listed : (t : Contracts) (k : Knowledge) (cs : List Contract) (g : Tag) (cookie : Cookie) → IsIn g (tags cs)
    → cookie_of_bits g.cookie ≡ Some cookie
    → HasRun (flat_map (listed_run k) (map (status_of t) cs)) cookie.instance cookie.run
has_listed t k [] g cookie i e = absurd i
has_listed t k (c ∷ cs) g cookie (inl h) e =
    let x : HasRun (listed_if k (status_of t c) (cookie_of_bits c.cookie)) cookie.instance cookie.run =
    listed_here t k c cookie (cookie_of_bits c.cookie) (ap (λ (y : Tag). cookie_of_bits y.cookie) h ∙ e) in
    record { of = x.of; is_in = in_front x.of (listed_run k (status_of t c)) _ x.is_in; key = x.key }
has_listed t k (c ∷ cs) g cookie (inr i) e =
    let x : HasRun (flat_map (listed_run k) (map (status_of t) cs)) cookie.instance cookie.run =
    has_listed t k cs g cookie i e in
    record { of = x.of; is_in = behind x.of (listed_run k (status_of t c)) _ x.is_in; key = x.key }

some_put : {X K : Type 0} (o : By X K) (x : X) (xs : List X) (k : K) → IsSome (lookup o xs k)
    → IsSome (lookup o (list_with_item o x xs) k)
some_put o x xs k e = subst IsSome (sym (lookup_put o x xs k)) (by (is_eq (o.cmp (o.key x) k)))
  where
    by : (b : Bool) → IsSome (if b then Some x else lookup o xs k)
    by true = refl
    by false = e

here_put : {X K : Type 0} (o : By X K) (x : X) (xs : List X) → IsSome (lookup o (list_with_item o x xs) (o.key x))
here_put o x xs =
    subst IsSome (sym (lookup_put o x xs (o.key x)))
    (subst (λ (r : Ordering). IsSome (if is_eq r then Some x else lookup o xs (o.key x)))
    (sym (same_key o (o.key x))) refl)

some_put_all : {X K : Type 0} (o : By X K) (ys xs : List X) (k : K) → IsSome (lookup o xs k)
    → IsSome (lookup o (put_all o ys xs) k)
some_put_all o [] xs k e = e
some_put_all o (y ∷ ys) xs k e = some_put_all o ys (list_with_item o y xs) k (some_put o y xs k e)

in_put_all : {X K : Type 0} (o : By X K) (y : X) (ys xs : List X) → IsIn y ys
    → IsSome (lookup o (put_all o ys xs) (o.key y))
in_put_all o y [] xs i = absurd i
in_put_all o y (z ∷ zs) xs (inl e) =
    some_put_all o zs (list_with_item o z xs) (o.key y)
    (subst (λ x. IsSome (lookup o (list_with_item o z xs) (o.key x))) e (here_put o z xs))
in_put_all o y (z ∷ zs) xs (inr i) = in_put_all o y zs (list_with_item o z xs) i

-- a run that is known stays known
pub knows_changed : (k : Knowledge) (c : KnowledgeChange) (n run : ℕ) → IsSome (run_at k n run)
    → IsSome (run_at (knowledge_after k c) n run)
unfolding knowledge_after
knows_changed k c n run e =
    some_put_all by_run (option_to_list c.run) (put_all by_run c.listed k.runs) (record { instance = n; run = run })
    (some_put_all by_run c.listed k.runs (record { instance = n; run = run }) e)

-- a run that a change notes is known
pub knows_noted : (k : Knowledge) (c : KnowledgeChange) (r : KnownRun) → c.run ≡ Some r
    → IsSome (run_at (knowledge_after k c) r.key.instance r.key.run)
unfolding knowledge_after
knows_noted k c r e =
    subst (λ (o : Option KnownRun). IsSome
    (lookup by_run (put_all by_run (option_to_list o) (put_all by_run c.listed k.runs)) r.key)) (sym e)
    (in_put_all by_run r (r ∷ []) (put_all by_run c.listed k.runs) (inl refl))

-- who lists the contracts knows each start that lives
pub knows_listed : (t : Contracts) (trail : List Item) (k : Knowledge) (c : KnowledgeChange) (n run : ℕ)
    → IsTable t trail → c.listed ≡ flat_map (listed_run k) (statuses t) → Lives n run trail
    → IsSome (run_at (knowledge_after k c) n run)
unfolding knowledge_after
knows_listed t trail k c n run is e lives =
    let h : IsHeldAs t n run = held_among t n run (live_runs trail) is.live lives in
    let x : HasRun (flat_map (listed_run k) (statuses t)) h.of.instance h.of.run =
    has_listed t k t.contracts (record { id = h.of.contract; cookie = h.held.cookie })
    (record { instance = h.of.instance; run = h.of.run; method = methods.Start }) h.held.is_there h.held.unpacks in
    let key : x.of.key ≡ record { instance = n; run = run } =
    x.key ∙ (λ j. record { instance = h.instance j; run = h.run_is j }) in
    let found : IsSome (lookup by_run (put_all by_run c.listed k.runs) x.of.key) =
    subst (λ (rs : List KnownRun). IsSome (lookup by_run (put_all by_run rs k.runs) x.of.key)) (sym e)
    (in_put_all by_run x.of (flat_map (listed_run k) (statuses t)) k.runs x.is_in) in
    some_put_all by_run (option_to_list c.run) (put_all by_run c.listed k.runs) (record { instance = n; run = run })
    (subst (λ (y : RunKey). IsSome (lookup by_run (put_all by_run c.listed k.runs) y)) key found)

-- ---- an event is reported

-- an item of the list that passes the test: the one at the first such place
record IsFoundBy {X : Type 0} (p : X → Bool) (xs : List X) (x : X) : Type 0 where
  is_in : IsIn x xs
  passes : p x ≡ true

one_more : (n : ℕ) → 1 + n ≡ suc n
one_more n = omega arith

first_passes : {X : Type 0} (p : X → Bool) (xs : List X) (x : X)
    → slice_get xs (prefix_len (λ y. not (p y)) xs) ≡ Some x → IsFoundBy p xs x
first_passes p [] x e = absurd cc
first_passes p (y ∷ ys) x e = by (p y) refl e (first_passes p ys x)
  where
    by : (b : Bool) → p y ≡ b → slice_get (y ∷ ys) (cond (not b) (1 + prefix_len (λ z. not (p z)) ys) 0) ≡ Some x
        → (slice_get ys (prefix_len (λ z. not (p z)) ys) ≡ Some x → IsFoundBy p ys x) → IsFoundBy p (y ∷ ys) x
    by true f g ih = let one : y ≡ x = cc in record { is_in = inl one; passes = subst (λ z. p z ≡ true) one f }
    by false f g ih = let r : IsFoundBy p ys x =
        ih (subst (λ n. slice_get (y ∷ ys) n ≡ Some x) (one_more (prefix_len (λ z. not (p z)) ys)) g) in
        record { is_in = inr r.is_in; passes = r.passes }

found_first : {X : Type 0} (p : X → Bool) (xs : List X) (x : X) → found_at xs (position p xs) ≡ Some x
    → IsFoundBy p xs x
found_first p xs x e = by (nat_lt (prefix_len (λ y. not (p y)) xs) (length xs)) e
  where
    by : (b : Bool) → found_at xs (cond b (Some (prefix_len (λ y. not (p y)) xs)) None) ≡ Some x → IsFoundBy p xs x
    by true f = first_passes p xs x f
    by false f = absurd cc

both_parts : (a b : Bool) → (a && b) ≡ true → a ≡ true
both_parts true b e = refl
both_parts false b e = absurd cc

-- a report is of a contract of the table and of an event of it
record IsReportOf (t : Contracts) (r : Report) : Type 0 where
  contract_is : IsIn r.contract t.contracts
  event_is : IsIn r.event t.events
  of : r.event.contract ≡ r.contract.id

report_by : (t : Contracts) (id number : ℕ) (c : Option Contract) (e : Option ContractEvent) (r : Report)
    → contract t id ≡ c → event_in t.events id number ≡ e → report_of c e ≡ Some r → IsReportOf t r
report_by t id number None e r f g h = absurd cc
report_by t id number (Some c) None r f g h = absurd cc
report_by t id number (Some c) (Some e) r f g h =
    let is_c : c ≡ r.contract = cc in
    let is_e : e ≡ r.event = cc in
    let x : IsFoundBy (has_id id) t.contracts c = found_first (has_id id) t.contracts c f in
    let y : IsFoundBy (is_event id number) t.events e = found_first (is_event id number) t.events e g in
    let here : c.id ≡ id = eqb-true c.id id x.passes in
    let there : e.contract ≡ id =
    eqb-true e.contract id (both_parts (e.contract == id) (e.number == number) y.passes) in
    record {
      contract_is = subst (λ (d : Contract). IsIn d t.contracts) is_c x.is_in;
      event_is = subst (λ (d : ContractEvent). IsIn d t.events) is_e y.is_in;
      of = sym (ap (λ (d : ContractEvent). d.contract) is_e) ∙ there ∙ sym here ∙ ap (λ (d : Contract). d.id) is_c;
    }

report_is : (t : Contracts) (id number : ℕ) (r : Report) → report_at t id number ≡ Some r → IsReportOf t r
unfolding report_at
report_is t id number r e = report_by t id number (contract t id) (event_in t.events id number) r refl refl e

empty_kind : (k : EventKind) → is_empty_event k ≡ true → k ≡ kinds.Empty
empty_kind kinds.Empty e = refl
empty_kind (kinds.Fork p) e = absurd cc
empty_kind (kinds.Exit p x) e = absurd cc
empty_kind (kinds.Core p) e = absurd cc
empty_kind (kinds.Signal p) e = absurd cc
empty_kind (kinds.Hwerr p) e = absurd cc

either_true : (a b : Bool) → (a || b) ≡ true → (a ≡ true) ⊎ (b ≡ true)
either_true true b e = inl refl
either_true false b e = inr e

after_true : (t : Contracts) (trail : List Item) (k : Knowledge) (r : Report) (c : Cookie) (old : KnownRun)
    → IsTable t trail → Once trail → IsReportOf t r → cookie_of_bits r.contract.cookie ≡ Some c
    → old.key ≡ record { instance = c.instance; run = c.run } → (old.empty ≡ true → Lives c.instance c.run trail → ⊥)
    → IsTrue trail (run_after k r c old)
after_true t trail k r c old is once report e key dead =
    let g : Tag = tag_of r.contract in
    let there : IsIn g (tags t.contracts) = tag_in r.contract t.contracts report.contract_is in
    record {
      begun = subst (λ (x : RunKey). WasSpawned x.instance x.run trail) (sym key)
          (begun_of t trail g c is.spawned there e);
      dead = λ empty lives. by (either_true old.empty (is_empty_event r.event.kind) empty)
          (subst (λ (x : RunKey). Lives x.instance x.run trail) key lives);
    }
  where
    by : (old.empty ≡ true) ⊎ (is_empty_event r.event.kind ≡ true) → Lives c.instance c.run trail → ⊥
    by (inl f) lives = dead f lives
    by (inr f) lives =
        let sound : EmptyIsEmpty t r.event = each_in (EmptyIsEmpty t) r.event t.events is.empty report.event_is in
        let none : has_members r.contract.id t.members ≡ false =
        subst (λ (n : ℕ). has_members n t.members ≡ false) report.of (sound.empty (empty_kind r.event.kind f)) in
        dead_where_none t trail (tag_of r.contract) c is once
        (tag_in r.contract t.contracts report.contract_is) e none lives

before_true : (t : Contracts) (trail : List Item) (k : Knowledge) (r : Report) (c : Cookie) (o : Option KnownRun)
    → run_at k c.instance c.run ≡ o → RunsAreTrue trail k → IsTable t trail → Once trail → IsReportOf t r
    → cookie_of_bits r.contract.cookie ≡ Some c
    → IsTrue trail (run_after k r c (run_or o (run_reported r c)))
before_true t trail k r c None e a is once report f =
    after_true t trail k r c (run_reported r c) is once report f refl (λ g lives. absurd cc)
before_true t trail k r c (Some old) e a is once report f =
    let key : old.key ≡ record { instance = c.instance; run = c.run } =
    found_key by_run (record { instance = c.instance; run = c.run }) k.runs old e in
    let was : IsTrue trail old =
    each_found (IsTrue trail) (has_key by_run (record { instance = c.instance; run = c.run })) k.runs old a e in
    after_true t trail k r c old is once report f key
    (λ g lives. was.dead g (subst (λ (x : RunKey). Lives x.instance x.run trail) (sym key) lives))

reported_run : (t : Contracts) (trail : List Item) (k : Knowledge) (r : Report) (o : Option Cookie)
    → cookie_of_bits r.contract.cookie ≡ o → RunsAreTrue trail k → IsTable t trail → Once trail → IsReportOf t r
    → RunsAreTrue trail (knowledge_after k (reported_as k r o))
reported_run t trail k r None e a is once report = true_changed trail k (reported_as k r None) a tt tt
reported_run t trail k r (Some c) e a is once report =
    true_changed trail k (reported_as k r (Some c)) a tt
    (before_true t trail k r c (run_at k c.instance c.run) refl a is once report e, tt)

-- the known facts of runs are true after a report
pub reported_true : (t : Contracts) (trail : List Item) (k : Knowledge) (id number : ℕ) (r : Report)
    → report_at t id number ≡ Some r → RunsAreTrue trail k → IsTable t trail → Once trail
    → RunsAreTrue trail (knowledge_after k (change_on_report k r))
unfolding change_on_report
reported_true t trail k id number r e a is once =
    reported_run t trail k r (cookie_of_bits r.contract.cookie) refl a is once (report_is t id number r e)

-- ---- a trail that goes on

-- a run that was begun stays so, and does not come to life later
pub record GoesOn (t u : List Item) : Type 0 where
  pub begun : (n run : ℕ) → WasSpawned n run t → WasSpawned n run u
  pub lives : (n run : ℕ) → WasSpawned n run t → Lives n run u → Lives n run t

pub true_later : (t u : List Item) (k : Knowledge) → GoesOn t u → RunsAreTrue t k → RunsAreTrue u k
true_later t u k g a =
    each_later (IsTrue t) (IsTrue u)
    (λ r x. record {
      begun = g.begun r.key.instance r.key.run x.begun;
      dead = λ e lives. x.dead e (g.lives r.key.instance r.key.run x.begun lives);
    }) k.runs a

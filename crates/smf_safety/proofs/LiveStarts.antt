-- At most one start lives of each instance, at each place of the trail.
use Rattle.std.proofs.Common.{◌≡◌, ◌⊎◌, ◌==◌, not, ℕ, Bool, true, false, cond, if◌then◌else◌, List, [], ◌∷◌, map, filter, Some, inl, inr, refl, sym, ap, ◌∙◌, subst}
use Rattle.smf_contract.specs.declared.call.ContractCall.{ContractCall}
use Rattle.smf_contract.specs.declared.cookie.Method.{Method}
use Rattle.smf_contract.specs.declared.cookie.Method.TheVariants as methods
use Rattle.smf_contract.specs.Called.{emptied_by}
use Rattle.smf_contract.specs.Entries.{Contracts}
use Rattle.smf_model.specs.declared.held.Instance.{Instance}
use Rattle.smf_model.specs.History.{History}
use Rattle.smf_model.specs.Contents.{Holdings}
use Rattle.smf_restarter.specs.Knowledge.{Knowledge}
use Rattle.smf_world.specs.declared.event.Event.{Event}
use Rattle.smf_world.specs.declared.event.Event.TheVariants as events
use Rattle.smf_world.specs.declared.item.Item.{Item}
use Rattle.smf_world.specs.declared.item.Item.TheVariants.{Boot, Committed, Held, Spawned, Emptied}
use Rattle.smf_world.specs.Happens.{world_after, happens}
use Rattle.smf_world.specs.Safe.{IsLiveIn, LiveStart, OneEach, OneLive, WasSpawned, begun_start, is_start, live_starts}
use Rattle.smf_world.specs.Worked.{emptied_items, work_of_event}
use Rattle.smf_world.specs.World.{World, initial_world}
use Rattle.smf_safety.proofs.DecidedEvents.{AreFresh, AreOwedWell, noted_three}
use Rattle.smf_safety.proofs.DecidedStarts.{IsOwedStart}
use Rattle.smf_safety.proofs.LiveClauses.{IsAmong, IsRowsLive, LiveInRows, LiveRun, Lives, Once, begun_run, live_runs}
use Rattle.smf_world.proofs.LiveEach.{each_later}
use Rattle.smf_safety.proofs.LiveItems.{IsEmptied, each_noted, emptied_each, held_row, rows_spawned}
use Rattle.smf_world.proofs.LiveLists.{Each}
use Rattle.smf_world.proofs.TrailItems.{noted, noted_more}
use Rattle.smf_world.proofs.TablesWalked.{IsBegun, IsHeld, IsOwing, IsRow, IsTabled, acts, at_once, begun_as, boots, nothing, passes, spawned, tabled}

-- ---- live runs are the live starts, with their runs

abbrev bare : LiveRun → LiveStart
bare l = record { contract = l.contract; instance = l.instance }

begun_bare : (b : Bool) (c i run : ℕ) (ls : List LiveRun)
    → begun_start b c i (map bare ls) ≡ map bare (begun_run b c i run ls)
begun_bare false c i run ls = refl
begun_bare true c i run ls = by (c == 0)
  where
    by : (b : Bool)
        → (if b then map bare ls else bare (record { contract = c; instance = i; run = run }) ∷ map bare ls)
        ≡ map bare (if b then ls else record { contract = c; instance = i; run = run } ∷ ls)
    by true = refl
    by false = refl

others_bare : (c : ℕ) (ls : List LiveRun)
    → filter (λ (l : LiveStart). not (l.contract == c)) (map bare ls)
    ≡ map bare (filter (λ (l : LiveRun). not (l.contract == c)) ls)
others_bare c [] = refl
others_bare c (l ∷ ls) = by (not (l.contract == c)) (others_bare c ls)
  where
    by : (b : Bool) → filter (λ (l : LiveStart). not (l.contract == c)) (map bare ls)
        ≡ map bare (filter (λ (l : LiveRun). not (l.contract == c)) ls)
        → cond b (bare l ∷ filter (λ (l : LiveStart). not (l.contract == c)) (map bare ls))
        (filter (λ (l : LiveStart). not (l.contract == c)) (map bare ls))
        ≡ map bare (cond b (l ∷ filter (λ (l : LiveRun). not (l.contract == c)) ls)
        (filter (λ (l : LiveRun). not (l.contract == c)) ls))
    by true ih = ap (λ (xs : List LiveStart). bare l ∷ xs) ih
    by false ih = ih

starts_are : (t : List Item) → live_starts t ≡ map bare (live_runs t)
starts_are [] = refl
starts_are (Spawned c i run method revision command ∷ t) =
    ap (begun_start (is_start method) c i) (starts_are t) ∙ begun_bare (is_start method) c i run (live_runs t)
starts_are (Emptied c ∷ t) = ap (filter (λ (l : LiveStart). not (l.contract == c))) (starts_are t)
    ∙ others_bare c (live_runs t)
starts_are (Boot ∷ t) = refl
starts_are (Committed j n s next ∷ t) = starts_are t
starts_are (Held name launch j n s ∷ t) = starts_are t

-- ---- what lives was begun

pub among_others : (n run : ℕ) (test : LiveRun → Bool) (ls : List LiveRun) → IsAmong n run (filter test ls)
    → IsAmong n run ls
among_others n run test [] a = a
among_others n run test (l ∷ ls) a = by (test l) a (among_others n run test ls)
  where
    by : (b : Bool) → IsAmong n run (cond b (l ∷ filter test ls) (filter test ls))
        → (IsAmong n run (filter test ls) → IsAmong n run ls) → ((l.instance ≡ n) × (l.run ≡ run)) ⊎ IsAmong n run ls
    by true (inl e) ih = inl e
    by true (inr a) ih = inr (ih a)
    by false a ih = inr (ih a)

-- among those with one more
pub among_begun : (n run c i r : ℕ) (b : Bool) (ls : List LiveRun) → IsAmong n run (begun_run b c i r ls)
    → ((b ≡ true) × (i ≡ n) × (r ≡ run)) ⊎ IsAmong n run ls
among_begun n run c i r false ls a = inr a
among_begun n run c i r true ls a = by (c == 0) a
  where
    by : (d : Bool) → IsAmong n run (if d then ls else record { contract = c; instance = i; run = r } ∷ ls)
        → ((true ≡ true) × (i ≡ n) × (r ≡ run)) ⊎ IsAmong n run ls
    by true a = inr a
    by false (inl e) = inl (refl, e.0, e.1)
    by false (inr a) = inr a

pub lives_spawned : (n run : ℕ) (t : List Item) → Lives n run t → WasSpawned n run t
lives_spawned n run [] a = a
lives_spawned n run (Spawned c i r method revision command ∷ t) a =
    by (among_begun n run c i r (is_start method) (live_runs t) a) (lives_spawned n run t)
  where
    by : ((is_start method ≡ true) × (i ≡ n) × (r ≡ run)) ⊎ IsAmong n run (live_runs t)
        → (Lives n run t → WasSpawned n run t) → ((i ≡ n) × (r ≡ run)) ⊎ WasSpawned n run t
    by (inl (e, f, g)) ih = inl (f, g)
    by (inr x) ih = inr (ih x)
lives_spawned n run (Emptied c ∷ t) a =
    lives_spawned n run t (among_others n run (λ (l : LiveRun). not (l.contract == c)) (live_runs t) a)
lives_spawned n run (Boot ∷ t) a = absurd a
lives_spawned n run (Committed j m s next ∷ t) a = lives_spawned n run t a
lives_spawned n run (Held name launch j m s ∷ t) a = lives_spawned n run t a

-- ---- no run lives twice

abbrev AreApart : List LiveRun → Type 0
AreApart [] = Unit {0}
AreApart (l ∷ ls) = (IsAmong l.instance l.run ls → ⊥) × AreApart ls

apart_others : (test : LiveRun → Bool) (ls : List LiveRun) → AreApart ls → AreApart (filter test ls)
apart_others test [] a = tt
apart_others test (l ∷ ls) a = by (test l) (apart_others test ls a.1)
  where
    by : (b : Bool) → AreApart (filter test ls) → AreApart (cond b (l ∷ filter test ls) (filter test ls))
    by true ih = (λ x. a.0 (among_others l.instance l.run test ls x), ih)
    by false ih = ih

apart_begun : (b : Bool) (c i run : ℕ) (ls : List LiveRun) → (IsAmong i run ls → ⊥) → AreApart ls
    → AreApart (begun_run b c i run ls)
apart_begun false c i run ls fresh a = a
apart_begun true c i run ls fresh a = by (c == 0)
  where
    by : (b : Bool) → AreApart (if b then ls else record { contract = c; instance = i; run = run } ∷ ls)
    by true = a
    by false = (fresh, a)

runs_apart : (t : List Item) → Once t → AreApart (live_runs t)
runs_apart [] o = tt
runs_apart (Spawned c i run method revision command ∷ t) o =
    apart_begun (is_start method) c i run (live_runs t) (λ a. o.0 (lives_spawned i run t a)) (runs_apart t o.1)
runs_apart (Emptied c ∷ t) o = apart_others (λ (l : LiveRun). not (l.contract == c)) (live_runs t) (runs_apart t o)
runs_apart (Boot ∷ t) o = tt
runs_apart (Committed j m s next ∷ t) o = runs_apart t o
runs_apart (Held name launch j m s ∷ t) o = runs_apart t o

-- ---- one of each instance

among_bare : (i : ℕ) (ls : List LiveRun) → IsLiveIn i (map bare ls) → (run : ℕ) × IsAmong i run ls
among_bare i [] a = absurd a
among_bare i (l ∷ ls) (inl e) = (l.run, inl (e, refl))
among_bare i (l ∷ ls) (inr a) = let x : (run : ℕ) × IsAmong i run ls = among_bare i ls a in (x.0, inr x.1)

same_live : (h : Holdings) (n a b : ℕ) → IsRowsLive h n a → IsRowsLive h n b → a ≡ b
same_live h n a b x y =
    let one : x.of ≡ y.of = let e : Some x.of ≡ Some y.of = sym x.is_there ∙ y.is_there in cc in
    let run : Some a ≡ Some b = sym x.live ∙ ap (λ (i : Instance). i.row.live) one ∙ y.live in
    cc

each_one : (h : Holdings) (ls : List LiveRun) → ((n run : ℕ) → IsAmong n run ls → IsRowsLive h n run) → AreApart ls
    → OneEach (map bare ls)
each_one h [] live a = tt
each_one h (l ∷ ls) live a = (
  λ x.
      let other : (run : ℕ) × IsAmong l.instance run ls = among_bare l.instance ls x in
      let same : other.0 ≡ l.run =
      same_live h l.instance other.0 l.run (live l.instance other.0 (inr other.1))
      (live l.instance l.run (inl (refl, refl))) in
      a.0 (subst (λ (r : ℕ). IsAmong l.instance r ls) same other.1),
  each_one h ls (λ n run x. live n run (inr x)) a.1,
)

-- one start of each instance lives, at one place
pub one_each : (h : Holdings) (t : List Item) → LiveInRows h t → Once t → OneEach (live_starts t)
one_each h t live o = subst OneEach (sym (starts_are t)) (each_one h (live_runs t) live (runs_apart t o))

-- ---- at each place

-- a start that lives is the live run of its row, no run was begun twice, and no instance has two that live
pub record IsLiveOnce (h : Holdings) (t : List Item) : Type 0 where
  pub live : LiveInRows h t
  pub once : Once t
  pub one : OneLive t

live_more : (h : Holdings) (x : Item) (t : List Item) → LiveInRows h (x ∷ t) → Once (x ∷ t) → OneLive t
    → IsLiveOnce h (x ∷ t)
live_more h x t live o one = record { live = live; once = o; one = (one_each h (x ∷ t) live o, one) }

row_live : (h : Holdings) (x : Item) (t : List Item) → IsRow x → IsLiveOnce h t → IsLiveOnce h (x ∷ t)
row_live h (Committed i n state next) t q k = live_more h (Committed i n state next) t k.live k.once k.one
row_live h (Held name launch i n state) t q k = live_more h (Held name launch i n state) t k.live k.once k.one
row_live h (Spawned c i run method revision command) t q k = absurd q
row_live h (Emptied c) t q k = absurd q
row_live h Boot t q k = absurd q

emptied_live : (h : Holdings) (x : Item) (t : List Item) → IsEmptied x → IsLiveOnce h t → IsLiveOnce h (x ∷ t)
emptied_live h (Emptied c) t q k =
    live_more h (Emptied c) t
    (λ n run l. k.live n run (among_others n run (λ (l : LiveRun). not (l.contract == c)) (live_runs t) l)) k.once k.one
emptied_live h (Committed i n state next) t q k = absurd q
emptied_live h (Held name launch i n state) t q k = absurd q
emptied_live h (Spawned c i run method revision command) t q k = absurd q
emptied_live h Boot t q k = absurd q

boot_live : (h : Holdings) (t : List Item) → IsLiveOnce h t → IsLiveOnce h (Boot ∷ t)
boot_live h t k = live_more h Boot t (λ n run l. absurd l) k.once k.one

begun_live : (y : History) (h : Holdings) (ks : List Knowledge) (c : ℕ) (s : IsOwing ks) (m : Method) (t : List Item)
    → s.owed.method ≡ m → AreOwedWell y h ks → LiveInRows h t
    → (n run : ℕ) → IsAmong n run (begun_run (is_start m) c s.of.instance s.owed.run (live_runs t)) → IsRowsLive h n run
begun_live y h ks c s methods.Stop t e well live n run a = live n run a
begun_live y h ks c s methods.Refresh t e well live n run a = live n run a
begun_live y h ks c s methods.Start t e well live n run a =
    by (among_begun n run c s.of.instance s.owed.run true (live_runs t) a)
  where
    by : ((true ≡ true) × (s.of.instance ≡ n) × (s.owed.run ≡ run)) ⊎ IsAmong n run (live_runs t) → IsRowsLive h n run
    by (inl (f, g, d)) =
        let o : IsOwedStart y h s.of.instance s.owed.run s.owed.revision s.owed.call.command = well s e in
        subst (λ (r : ℕ). IsRowsLive h n r) d
        (subst (λ (i : ℕ). IsRowsLive h i s.owed.run) g
        (record { of = o.of; is_there = o.is_there; live = o.live }))
    by (inr x) = live n run x

one_begun : (y : History) (h : Holdings) (ks : List Knowledge) (c : ℕ) (s : IsOwing ks) (t : List Item)
    → AreOwedWell y h ks → (WasSpawned s.of.instance s.owed.run t → ⊥) → IsLiveOnce h t
    → IsLiveOnce h (begun_as c s.of s.owed ∷ t)
one_begun y h ks c s t well fresh k =
    live_more h (begun_as c s.of s.owed) t (begun_live y h ks c s s.owed.method t refl well k.live)
    (fresh, k.once) k.one

begun_once : (y : History) (h : Holdings) (ks : List Knowledge) (table : Contracts) (call : ContractCall)
    (xs t : List Item) → IsBegun ks table call xs → AreFresh ks t → AreOwedWell y h ks → IsLiveOnce h t
    → IsLiveOnce h (noted xs t)
begun_once y h ks table call xs t (nothing p e) fresh well k =
    subst (λ (zs : List Item). IsLiveOnce h (noted zs t)) (sym e) k
begun_once y h ks table call xs t (at_once s p e) fresh well k =
    subst (λ (zs : List Item). IsLiveOnce h (noted zs t)) (sym e) (one_begun y h ks 0 s t well (fresh s) k)
begun_once y h ks table call xs t (spawned s c cookie terms n p q e) fresh well k =
    subst (λ (zs : List Item). IsLiveOnce h (noted zs t)) (sym e) (one_begun y h ks c s t well (fresh s) k)

-- the items of an event's work, against the value before it
pub live_kept : (y : History) (h : Holdings) (ks : List Knowledge) (table : Contracts) (items : List Item)
    (call : ContractCall) (t : List Item) → IsTabled ks table items call
    → AreFresh ks t → AreOwedWell y h ks → IsLiveOnce h t → IsLiveOnce h (noted items t)
live_kept y h ks table items call t (passes e a) fresh well k = each_noted (IsLiveOnce h) IsRow (row_live h) items t a k
live_kept y h ks table items call t (acts rows begun a b e) fresh well k =
    let u : List Item = noted rows t in
    let r : Each IsRow rows = each_later IsHeld IsRow held_row rows a in
    let emptied : List Item = emptied_items table call in
    let fresh_there : AreFresh ks u = λ s w. fresh s (rows_spawned s.of.instance s.owed.run rows t r w) in
    subst (IsLiveOnce h) (sym (ap (λ (zs : List Item). noted zs t) e ∙ noted_three rows begun emptied t))
    (each_noted (IsLiveOnce h) IsEmptied (emptied_live h) emptied (noted begun u) (emptied_each (emptied_by table call))
    (begun_once y h ks table call begun u b fresh_there well (each_noted (IsLiveOnce h) IsRow (row_live h) rows t r k)))
live_kept y h ks table items call t (boots rows a e c) fresh well k =
    subst (λ (zs : List Item). IsLiveOnce h (noted zs t)) (sym e)
    (subst (IsLiveOnce h) (sym (noted_more Boot rows t))
    (each_noted (IsLiveOnce h) IsRow (row_live h) rows (Boot ∷ t) a (boot_live h t k)))

-- and so it goes on
pub one_live_event : (w : World) (e : Event) → AreFresh w.restarters w.trail
    → AreOwedWell w.history w.now w.restarters → IsLiveOnce w.now w.trail → OneLive (happens w e).trail
unfolding happens world_after
one_live_event w e fresh well k =
    (live_kept w.history w.now w.restarters w.table (work_of_event w e).items (work_of_event w e).call w.trail
    (tabled w e) fresh well k).one

pub one_live_first : (h : Holdings) → OneLive (happens (initial_world h) events.Boot).trail
one_live_first h =
    one_live_event (initial_world h) events.Boot (λ s w. absurd s.is_launched) (λ s e. absurd s.is_launched)
    (record { live = λ n run l. absurd l; once = tt; one = tt })

-- The starts that live after an event lived before it, but for one that was owed and is begun.
use Rattle.std.proofs.Common.{◌≡◌, ◌⊎◌, ◌==◌, not, ℕ, true, List, [], ◌∷◌, inl, inr, refl, sym, ap, ◌∙◌, subst}
use Rattle.smf_contract.specs.declared.call.ContractCall.{ContractCall}
use Rattle.smf_contract.specs.declared.cookie.Method.{Method}
use Rattle.smf_contract.specs.declared.cookie.Method.TheVariants as methods
use Rattle.smf_contract.specs.Called.{emptied_by}
use Rattle.smf_contract.specs.Entries.{Contracts}
use Rattle.smf_restarter.specs.Knowledge.{Knowledge}
use Rattle.smf_world.specs.declared.event.Event.{Event}
use Rattle.smf_world.specs.declared.item.Item.{Item}
use Rattle.smf_world.specs.declared.item.Item.TheVariants.{Boot, Committed, Held, Spawned, Emptied}
use Rattle.smf_world.specs.Happens.{world_after, happens}
use Rattle.smf_world.specs.Safe.{WasSpawned, is_start}
use Rattle.smf_world.specs.Worked.{emptied_items, work_of_event}
use Rattle.smf_world.specs.World.{World}
use Rattle.smf_safety.proofs.DecidedEvents.{AreFresh, noted_three}
use Rattle.smf_safety.proofs.LiveClauses.{IsAmong, LiveRun, Lives, live_runs}
use Rattle.smf_world.proofs.LiveEach.{each_later}
use Rattle.smf_safety.proofs.LiveItems.{IsEmptied, each_noted, emptied_each, held_row, rows_live}
use Rattle.smf_safety.proofs.LiveKnown.{GoesOn}
use Rattle.smf_world.proofs.LiveLists.{Each}
use Rattle.smf_safety.proofs.LiveStarts.{among_begun, among_others}
use Rattle.smf_world.proofs.TrailItems.{noted, noted_more}
use Rattle.smf_world.proofs.TablesWalked.{IsBegun, IsHeld, IsOwing, IsRow, IsTabled, acts, at_once, begun_as, boots, nothing, passes, spawned, tabled}

-- the start of this run is owed by a launched restarter that is up
pub record IsStartOf (ks : List Knowledge) (n run : ℕ) : Type 0 where
  pub by : IsOwing ks
  pub start : by.owed.method ≡ methods.Start
  pub instance : by.of.instance ≡ n
  pub run_is : by.owed.run ≡ run

emptied_lives : (n run : ℕ) (x : Item) (t : List Item) → IsEmptied x → Lives n run (x ∷ t) → Lives n run t
emptied_lives n run (Emptied c) t q l = among_others n run (λ (l : LiveRun). not (l.contract == c)) (live_runs t) l
emptied_lives n run (Committed i m s next) t q l = absurd q
emptied_lives n run (Held name launch i m s) t q l = absurd q
emptied_lives n run (Spawned c i r method revision command) t q l = absurd q
emptied_lives n run Boot t q l = absurd q

start_is : (m : Method) → is_start m ≡ true → m ≡ methods.Start
start_is methods.Start e = refl
start_is methods.Stop e = absurd cc
start_is methods.Refresh e = absurd cc

one_begun : (ks : List Knowledge) (n run c : ℕ) (s : IsOwing ks) (t : List Item)
    → Lives n run (begun_as c s.of s.owed ∷ t) → Lives n run t ⊎ IsStartOf ks n run
one_begun ks n run c s t l = by (among_begun n run c s.of.instance s.owed.run (is_start s.owed.method) (live_runs t) l)
  where
    by : ((is_start s.owed.method ≡ true) × (s.of.instance ≡ n) × (s.owed.run ≡ run)) ⊎ IsAmong n run (live_runs t)
        → Lives n run t ⊎ IsStartOf ks n run
    by (inl (e, f, g)) = inr (record { by = s; start = start_is s.owed.method e; instance = f; run_is = g })
    by (inr x) = inl x

begun_lives : (ks : List Knowledge) (table : Contracts) (call : ContractCall) (n run : ℕ) (xs t : List Item)
    → IsBegun ks table call xs → Lives n run (noted xs t) → Lives n run t ⊎ IsStartOf ks n run
begun_lives ks table call n run xs t (nothing p e) l = inl (subst (λ (zs : List Item). Lives n run (noted zs t)) e l)
begun_lives ks table call n run xs t (at_once s p e) l =
    one_begun ks n run 0 s t (subst (λ (zs : List Item). Lives n run (noted zs t)) e l)
begun_lives ks table call n run xs t (spawned s c cookie terms m p q e) l =
    one_begun ks n run c s t (subst (λ (zs : List Item). Lives n run (noted zs t)) e l)

rows_lives : (n run : ℕ) (xs t : List Item) → Each IsRow xs → Lives n run (noted xs t) → Lives n run t
rows_lives n run xs t a l = subst (IsAmong n run) (rows_live xs t a) l

-- the starts that live after the work of an event
pub lives_of : (ks : List Knowledge) (table : Contracts) (items : List Item) (call : ContractCall) (n run : ℕ)
    (t : List Item) → IsTabled ks table items call → Lives n run (noted items t) → Lives n run t ⊎ IsStartOf ks n run
lives_of ks table items call n run t (passes e a) l = inl (rows_lives n run items t a l)
lives_of ks table items call n run t (boots rows a e c) l =
    let m : Lives n run (noted rows (Boot ∷ t)) =
    subst (Lives n run) (noted_more Boot rows t) (subst (λ (zs : List Item). Lives n run (noted zs t)) e l) in
    absurd (rows_lives n run rows (Boot ∷ t) a m)
lives_of ks table items call n run t (acts rows begun a b e) l =
    let u : List Item = noted rows t in
    let emptied : List Item = emptied_items table call in
    let there : Lives n run (noted emptied (noted begun u)) =
    subst (Lives n run) (ap (λ (zs : List Item). noted zs t) e ∙ noted_three rows begun emptied t) l in
    let before : Lives n run (noted begun u) =
    each_noted (λ v. Lives n run v → Lives n run (noted begun u)) IsEmptied
    (λ x v q p m. p (emptied_lives n run x v q m)) emptied (noted begun u) (emptied_each (emptied_by table call))
    (λ m. m) there in
    by (begun_lives ks table call n run begun u b before)
  where
    by : Lives n run (noted rows t) ⊎ IsStartOf ks n run → Lives n run t ⊎ IsStartOf ks n run
    by (inl m) = inl (rows_lives n run rows t (each_later IsHeld IsRow held_row rows a) m)
    by (inr s) = inr s

pub lives_event : (w : World) (e : Event) (n run : ℕ) → Lives n run (happens w e).trail
    → Lives n run w.trail ⊎ IsStartOf w.restarters n run
unfolding happens world_after
lives_event w e n run l =
    lives_of w.restarters w.table (work_of_event w e).items (work_of_event w e).call n run w.trail (tabled w e) l

-- ---- what was begun stays so

begun_past : (n run : ℕ) (x : Item) (t : List Item) → WasSpawned n run t → WasSpawned n run (x ∷ t)
begun_past n run (Spawned c i r method revision command) t w = inr w
begun_past n run (Committed i m s next) t w = w
begun_past n run (Held name launch i m s) t w = w
begun_past n run (Emptied c) t w = w
begun_past n run Boot t w = w

pub begun_noted : (n run : ℕ) (xs t : List Item) → WasSpawned n run t → WasSpawned n run (noted xs t)
begun_noted n run [] t w = w
begun_noted n run (x ∷ xs) t w =
    subst (WasSpawned n run) (sym (noted_more x xs t)) (begun_noted n run xs (x ∷ t) (begun_past n run x t w))

begun_event : (w : World) (e : Event) (n run : ℕ) → WasSpawned n run w.trail → WasSpawned n run (happens w e).trail
unfolding happens world_after
begun_event w e n run s = begun_noted n run (work_of_event w e).items w.trail s

-- no run that was begun comes to life again
pub goes_on : (w : World) (e : Event) → AreFresh w.restarters w.trail → GoesOn w.trail (happens w e).trail
goes_on w e fresh = record { begun = begun_event w e; lives = λ n run s l. by n run s (lives_event w e n run l) }
  where
    by : (n run : ℕ) → WasSpawned n run w.trail → Lives n run w.trail ⊎ IsStartOf w.restarters n run
        → Lives n run w.trail
    by n run s (inl l) = l
    by n run s (inr x) =
        absurd (fresh x.by
        (subst (λ (m : ℕ). WasSpawned m x.by.owed.run w.trail) (sym x.instance)
        (subst (λ (m : ℕ). WasSpawned n m w.trail) (sym x.run_is) s)))

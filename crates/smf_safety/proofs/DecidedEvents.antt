-- Starts stay well decided, and no run begins twice, if each owed start was decided so and no owed run was begun.
use Rattle.std.proofs.Common.{◌≡◌, ℕ, List, [], ◌∷◌, ◌++◌, map, refl, sym, ap, ◌∙◌, subst}
use Rattle.smf_contract.specs.declared.call.ContractCall.{ContractCall}
use Rattle.smf_contract.specs.declared.cookie.Method.{Method}
use Rattle.smf_contract.specs.declared.cookie.Method.TheVariants as methods
use Rattle.smf_contract.specs.Called.{emptied_by}
use Rattle.smf_contract.specs.Entries.{Contracts}
use Rattle.smf_model.specs.History.{History}
use Rattle.smf_model.specs.Contents.{Holdings}
use Rattle.smf_restarter.specs.Knowledge.{Knowledge}
use Rattle.smf_world.specs.declared.event.Event.{Event}
use Rattle.smf_world.specs.declared.event.Event.TheVariants as events
use Rattle.smf_world.specs.declared.item.Item.{Item}
use Rattle.smf_world.specs.declared.item.Item.TheVariants.{Boot, Committed, Held, Spawned, Emptied}
use Rattle.smf_world.specs.Happens.{world_after, happens}
use Rattle.smf_world.specs.Safe.{StartDecided, StartsDecided, WasSpawned, is_start}
use Rattle.smf_world.specs.Worked.{emptied_items, work_of_event}
use Rattle.smf_world.specs.World.{World, initial_world}
use Rattle.smf_world.proofs.DecidedHistory.{grew_by}
use Rattle.smf_safety.proofs.DecidedLast.{AreLast, LastIsRow}
use Rattle.smf_safety.proofs.DecidedStarts.{IsOwedStart, NoneBegun, starts_later, starts_past, well_decided}
use Rattle.smf_safety.proofs.LiveClauses.{Once}
use Rattle.smf_world.proofs.LiveEach.{each_later}
use Rattle.smf_safety.proofs.LiveItems.{all_emptied_once, emptied_each, held_last_committed, held_row, rows_once, rows_spawned}
use Rattle.smf_world.proofs.LiveLists.{Each}
use Rattle.smf_world.proofs.TrailItems.{noted, noted_both, noted_more}
use Rattle.smf_world.proofs.RowClauses.{AreAnnounced}
use Rattle.smf_world.proofs.TablesWalked.{IsBegun, IsHeld, IsOwing, IsRow, IsTabled, acts, at_once, boots, nothing, passes, spawned, tabled}

-- no run that a restarter owes was ever begun
abbrev pub AreFresh : List Knowledge → List Item → Type 0
AreFresh ks trail = (s : IsOwing ks) → WasSpawned s.of.instance s.owed.run trail → ⊥

-- and a start is owed as it was decided
abbrev pub AreOwedWell : History → Holdings → List Knowledge → Type 0
AreOwedWell y h ks =
    (s : IsOwing ks) → s.owed.method ≡ methods.Start
    → IsOwedStart y h s.of.instance s.owed.run s.owed.revision s.owed.call.command

-- ---- one method that is begun

start_by : (y : History) (h : Holdings) (t : List Item) (ks : List Knowledge) (s : IsOwing ks) (m : Method)
    → s.owed.method ≡ m → AreOwedWell y h ks → AreAnnounced y h → AreLast h t
    → (WasSpawned s.of.instance s.owed.run t → ⊥)
    → StartDecided y t (is_start m) s.of.instance s.owed.run s.owed.revision s.owed.call.command
start_by y h t ks s methods.Start e well announced last fresh =
    well_decided y h t s.of.instance s.owed.run s.owed.revision s.owed.call.command (well s e) announced last fresh
start_by y h t ks s methods.Stop e well announced last fresh = tt
start_by y h t ks s methods.Refresh e well announced last fresh = tt

starts_begun : (y : History) (h : Holdings) (ks : List Knowledge) (table : Contracts) (call : ContractCall)
    (xs t : List Item) → IsBegun ks table call xs → AreFresh ks t → AreOwedWell y h ks → AreAnnounced y h → AreLast h t
    → StartsDecided y t → StartsDecided y (noted xs t)
starts_begun y h ks table call xs t (nothing p e) fresh well announced last d =
    subst (λ (zs : List Item). StartsDecided y (noted zs t)) (sym e) d
starts_begun y h ks table call xs t (at_once s p e) fresh well announced last d =
    subst (λ (zs : List Item). StartsDecided y (noted zs t)) (sym e)
    (start_by y h t ks s s.owed.method refl well announced last (fresh s), d)
starts_begun y h ks table call xs t (spawned s c cookie terms n p q e) fresh well announced last d =
    subst (λ (zs : List Item). StartsDecided y (noted zs t)) (sym e)
    (start_by y h t ks s s.owed.method refl well announced last (fresh s), d)

once_begun : (ks : List Knowledge) (table : Contracts) (call : ContractCall) (xs t : List Item)
    → IsBegun ks table call xs → AreFresh ks t → Once t → Once (noted xs t)
once_begun ks table call xs t (nothing p e) fresh o = subst (λ (zs : List Item). Once (noted zs t)) (sym e) o
once_begun ks table call xs t (at_once s p e) fresh o =
    subst (λ (zs : List Item). Once (noted zs t)) (sym e) (fresh s, o)
once_begun ks table call xs t (spawned s c cookie terms n p q e) fresh o =
    subst (λ (zs : List Item). Once (noted zs t)) (sym e) (fresh s, o)

-- ---- the work of an event

rows_none : (xs : List Item) → Each IsRow xs → NoneBegun xs
rows_none [] a = tt
rows_none (Committed i n state next ∷ xs) a = rows_none xs a.1
rows_none (Held name launch i n state ∷ xs) a = rows_none xs a.1
rows_none (Spawned c i run method revision command ∷ xs) a = absurd a.0
rows_none (Emptied c ∷ xs) a = absurd a.0
rows_none (Boot ∷ xs) a = absurd a.0

emptied_none : (cs : List ℕ) → NoneBegun (map (λ (c : ℕ). Emptied c) cs)
emptied_none [] = tt
emptied_none (c ∷ cs) = emptied_none cs

-- rows, begun methods and emptied contracts on a trail, one after another
pub noted_three : (rows begun emptied t : List Item)
    → noted (rows ++ begun ++ emptied) t ≡ noted emptied (noted begun (noted rows t))
noted_three rows begun emptied t = noted_both (rows ++ begun) emptied t ∙ ap (noted emptied) (noted_both rows begun t)

held_rows : (xs : List Item) → Each IsHeld xs → Each IsRow xs
held_rows xs a = each_later IsHeld IsRow held_row xs a

pub starts_kept : (y : History) (h : Holdings) (ks : List Knowledge) (table : Contracts) (items : List Item)
    (call : ContractCall) (t : List Item) → IsTabled ks table items call
    → AreFresh ks t → AreOwedWell y h ks → AreAnnounced y h → AreLast h t → StartsDecided y t
    → StartsDecided y (noted items t)
starts_kept y h ks table items call t (passes e a) fresh well announced last d =
    starts_past y items t (rows_none items a) d
starts_kept y h ks table items call t (acts rows begun a b e) fresh well announced last d =
    let u : List Item = noted rows t in
    let k : Each IsRow rows = held_rows rows a in
    let emptied : List Item = emptied_items table call in
    let fresh_there : AreFresh ks u = λ s w. fresh s (rows_spawned s.of.instance s.owed.run rows t k w) in
    let last_there : AreLast h u = λ n i there. held_last_committed n rows t a ∙ last n i there in
    subst (StartsDecided y) (sym (ap (λ (zs : List Item). noted zs t) e ∙ noted_three rows begun emptied t))
    (starts_past y emptied (noted begun u) (emptied_none (emptied_by table call))
    (starts_begun y h ks table call begun u b fresh_there well announced last_there
    (starts_past y rows t (rows_none rows k) d)))
starts_kept y h ks table items call t (boots rows a e c) fresh well announced last d =
    subst (λ (zs : List Item). StartsDecided y (noted zs t)) (sym e)
    (starts_past y (Boot ∷ rows) t (rows_none rows a) d)

pub once_kept : (ks : List Knowledge) (table : Contracts) (items : List Item) (call : ContractCall) (t : List Item)
    → IsTabled ks table items call → AreFresh ks t → Once t → Once (noted items t)
once_kept ks table items call t (passes e a) fresh o = rows_once items t a o
once_kept ks table items call t (acts rows begun a b e) fresh o =
    let u : List Item = noted rows t in
    let k : Each IsRow rows = held_rows rows a in
    let emptied : List Item = emptied_items table call in
    let fresh_there : AreFresh ks u = λ s w. fresh s (rows_spawned s.of.instance s.owed.run rows t k w) in
    subst Once (sym (ap (λ (zs : List Item). noted zs t) e ∙ noted_three rows begun emptied t))
    (all_emptied_once emptied (noted begun u) (emptied_each (emptied_by table call))
    (once_begun ks table call begun u b fresh_there (rows_once rows t k o)))
once_kept ks table items call t (boots rows a e c) fresh o =
    subst (λ (zs : List Item). Once (noted zs t)) (sym e)
    (subst Once (sym (noted_more Boot rows t)) (rows_once rows (Boot ∷ t) a o))

-- ---- events

-- starts stay well decided
pub starts_event : (w : World) (e : Event) → AreFresh w.restarters w.trail → AreOwedWell w.history w.now w.restarters
    → AreAnnounced w.history w.now → LastIsRow w
    → StartsDecided w.history w.trail → StartsDecided (happens w e).history (happens w e).trail
unfolding happens world_after
starts_event w e fresh well announced last d =
    starts_later w.history _ (grew_by w.history.first (work_of_event w e).command w.history.past)
    (noted (work_of_event w e).items w.trail)
    (starts_kept w.history w.now w.restarters w.table (work_of_event w e).items (work_of_event w e).call w.trail
    (tabled w e) fresh well announced last d)

-- no run is begun twice
pub once_event : (w : World) (e : Event) → AreFresh w.restarters w.trail → Once w.trail → Once (happens w e).trail
unfolding happens world_after
once_event w e fresh o =
    once_kept w.restarters w.table (work_of_event w e).items (work_of_event w e).call w.trail (tabled w e) fresh o

-- ---- from a boot of what was found

none_at_first : (table : Contracts) (call : ContractCall) (begun : List Item) → IsBegun [] table call begun
    → NoneBegun begun
none_at_first table call begun (nothing p e) = subst NoneBegun (sym e) tt
none_at_first table call begun (at_once s p e) = absurd s.is_launched
none_at_first table call begun (spawned s c cookie terms n p q e) = absurd s.is_launched

starts_unlaunched : (y : History) (table : Contracts) (items : List Item) (call : ContractCall) (t : List Item)
    → IsTabled [] table items call → StartsDecided y t → StartsDecided y (noted items t)
starts_unlaunched y table items call t (passes e a) d = starts_past y items t (rows_none items a) d
starts_unlaunched y table items call t (boots rows a e c) d =
    subst (λ (zs : List Item). StartsDecided y (noted zs t)) (sym e)
    (starts_past y (Boot ∷ rows) t (rows_none rows a) d)
starts_unlaunched y table items call t (acts rows begun a b e) d =
    subst (StartsDecided y)
    (sym (ap (λ (zs : List Item). noted zs t) e ∙ noted_three rows begun (emptied_items table call) t))
    (starts_past y (emptied_items table call) (noted begun (noted rows t)) (emptied_none (emptied_by table call))
    (starts_past y begun (noted rows t) (none_at_first table call begun b)
    (starts_past y rows t (rows_none rows (held_rows rows a)) d)))

pub starts_first : (h : Holdings)
    → StartsDecided (happens (initial_world h) events.Boot).history (happens (initial_world h) events.Boot).trail
unfolding happens world_after
starts_first h =
    let w : World = initial_world h in
    starts_later w.history _ (grew_by w.history.first (work_of_event w events.Boot).command w.history.past)
    (noted (work_of_event w events.Boot).items [])
    (starts_unlaunched w.history w.table (work_of_event w events.Boot).items (work_of_event w events.Boot).call []
    (tabled w events.Boot) tt)

pub once_first : (h : Holdings) → Once (happens (initial_world h) events.Boot).trail
once_first h = once_event (initial_world h) events.Boot (λ s w. absurd s.is_launched) tt
